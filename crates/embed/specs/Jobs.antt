-- What the parts of a caller's job represent, and why a job fails.
use Rattle.std.specs.Prelude.{◌≡◌, ◌≢◌, ◌⊎◌, ◌<◌, ◌≤◌, ◌==◌, ◌&&◌, ◌||◌, ⊤, not, true, false, Bool, All, ℕ, ◌+◌, ◌/◌, ◌%◌, pos, List, [], ◌∷◌, Option, Result, Err, Some, None, IfSome, is_some, slice_get, if◌then◌else◌, bytes_eq, fold, length, map, option_and_then}
use Rattle.std.specs.Option.{option_map_or}
use Rattle.std.specs.Str.{IsUtf8}
use Rattle.keys.specs.Keys.{digest_by}
use Rattle.keys.specs.declared.judge.Algorithm.TheVariants.{Sha256, Sha512}
use Rattle.rolechain.specs.Text.{root_state, state_of}
use Rattle.rolechain.specs.declared.fault.StateFault.{StateFault}
use Rattle.rolechain.specs.declared.fault.StateFault.TheVariants as state
use Rattle.cjson.specs.Document.{◌>>=◌, or_refuse, refuse_if}
use Rattle.meta.specs.Content.{content, has_no_known_hash, target_names}
use Rattle.deleg.specs.declared.accepted.Search.{Search}
use Rattle.meta.specs.declared.fault.Fault.TheVariants.{HashWrong, LengthWrong, Missing, NoKnownHash}
use Rattle.cycle.specs.Workflow.{Checks, Course, Fault, Repository, Request, State, Target, course, target_of}
pub use Rattle.cycle.specs.Workflow.{Files, Moment}
use Rattle.embed.specs.declared.fault.JobFault.{JobFault}
use Rattle.embed.specs.declared.fault.JobFault.TheVariants as fault
use Rattle.embed.specs.declared.job.Bytes.{Bytes}
use Rattle.embed.specs.declared.job.Digests.{Digests}
use Rattle.embed.specs.declared.job.File.{File}
use Rattle.embed.specs.declared.job.Job.{Job}

-- # The files of a list, by name.

-- the same files, and this one under its name
abbrev pub with_file : Files → File → Files
with_file files f name = if bytes_eq f.name.now name then Some f.bytes.now else files name

abbrev pub no_files : Files
no_files name = None

-- of two files with one name the last counts
abbrev pub files_of : List File → Files
files_of files = fold with_file no_files files

-- # The paths and the moment.

abbrev pub paths_of : List Bytes → List (List ℕ)
paths_of paths = map (λ p. p.bytes.now) paths

-- that many seconds after 1970-01-01T00:00:00Z
abbrev pub moment_at : ℕ → Moment
moment_at seconds = record { day = pos (seconds / 86400); second = seconds % 86400 }

-- # What is given of target files.

-- the length of a file, and those of its digests that are given
pub record Measure : Type 0 where
  pub length : ℕ
  pub sha256 : Option (List ℕ)
  pub sha512 : Option (List ℕ)

-- the bytes of a file, or their length and digests alone, and the index in its list
pub data Given : Type 0 where
  Whole : ℕ → List ℕ → Given
  Measured : ℕ → Measure → Given

-- what is given of the file of a name
abbrev pub Givens : Type 0
Givens = List ℕ → Option Given

abbrev pub nothing_given : Givens
nothing_given name = None

-- the same, and this of the name
abbrev pub with_given : Givens → List ℕ → Given → Givens
with_given all own given name = if bytes_eq own name then Some given else all name

-- these files as well, of which the first has the index
abbrev pub with_files : ℕ → Givens → List File → Givens
with_files at all [] = all
with_files at all (f ∷ more) =
    with_files (at + 1) (with_given all f.name.now (Whole at f.bytes.now)) more

-- a digest is given if its byte isn't 0
abbrev pub given_digest : ℕ → List ℕ → Option (List ℕ)
given_digest has digest = if has == 0 then None else Some digest

abbrev pub measure_in : Digests → Measure
measure_in d = record {
  length = d.length;
  sha256 = given_digest d.has_sha256 d.sha256;
  sha512 = given_digest d.has_sha512 d.sha512;
}

abbrev pub with_digests : ℕ → Givens → List Digests → Givens
with_digests at all [] = all
with_digests at all (d ∷ more) =
    with_digests (at + 1) (with_given all d.name.now (Measured at (measure_in d))) more

-- of all rows with one name the last counts, and digests count after bytes
abbrev pub givens_of : Job → Givens
givens_of job =
    with_digests 0 (with_files 0 nothing_given job.targets.now) job.digests.now

-- the job's targets have a file of that name and these bytes at the index
pub record IsFileAt (job : Job) (name : List ℕ) (at : ℕ) (bytes : List ℕ) : Type 0 where
  pub file : File
  pub there : slice_get job.targets.now at ≡ Some file
  pub named : file.name.now ≡ name
  pub has : file.bytes.now ≡ bytes

-- the job's digests have a row of that name and measure at the index
pub record AreDigestsAt (job : Job) (name : List ℕ) (at : ℕ) (m : Measure) : Type 0 where
  pub row : Digests
  pub there : slice_get job.digests.now at ≡ Some row
  pub named : row.name.now ≡ name
  pub has : measure_in row ≡ m

-- what is given under the name is that of the row at the index
abbrev pub IsRow : Job → List ℕ → Option Given → Type 0
IsRow job name None = Unit {0}
IsRow job name (Some (Whole at bytes)) = IsFileAt job name at bytes
IsRow job name (Some (Measured at m)) = AreDigestsAt job name at m

-- there is a file, and it has the length and the digests that are given
pub record HasMeasure (m : Measure) (file : Option (List ℕ)) : Type 0 where
  pub bytes : List ℕ
  pub there : file ≡ Some bytes
  pub of_length : m.length ≡ length bytes
  pub of_sha256 : IfSome m.sha256 (λ d. d ≡ digest_by Sha256 bytes)
  pub of_sha512 : IfSome m.sha512 (λ d. d ≡ digest_by Sha512 bytes)

-- the file is one of which this is given
abbrev pub Agrees : Option Given → Option (List ℕ) → Type 0
Agrees None file = file ≡ None
Agrees (Some (Whole at bytes)) file = file ≡ Some bytes
Agrees (Some (Measured at m)) file = HasMeasure m file

-- these may be the target files
abbrev pub AreGiven : Givens → Files → Type 0
AreGiven given files = (name : List ℕ) → Agrees (given name) (files name)

abbrev pub AreTargets : Job → Files → Type 0
AreTargets job files = AreGiven (givens_of job) files

-- # The check of a target's file by what is given (TUF 1.0 section 5.7).

-- what is given under the first of the names of which something is
abbrev pub first_given : Givens → List (List ℕ) → Option Given
first_given given [] = None
first_given given (name ∷ names) = option_map_or Some (given name) (first_given given names)

-- what is given of the target's file: under the first of its names
abbrev pub given_for : Givens → Bool → Target → Option Given
given_for given consistent t =
    first_given given (target_names consistent t.path t.hashes.sha256 t.hashes.sha512)

-- what is given of the file of the target that each search found
abbrev pub given_to : Givens → Bool → Option Search → Option Given
given_to given consistent s = option_and_then (given_for given consistent) (target_of s)

abbrev pub givens_for : Givens → Course → List (Option Given)
givens_for given c = map (given_to given c.trusted.root.reading.consistent) c.searches

-- a digest is listed, and the given one is another or none
abbrev pub differs_from : Option (List ℕ) → Option (List ℕ) → Bool
differs_from None given = false
differs_from (Some listed) None = true
differs_from (Some listed) (Some given) = not (bytes_eq listed given)

-- the target's length and digests are those of the measure
abbrev pub measured_content : Target → Measure → Result ⊤ Fault
measured_content t m = do
  sized ← refuse_if (not (t.length == m.length)) LengthWrong
  hashed ← refuse_if
      (differs_from t.hashes.sha256 m.sha256 || differs_from t.hashes.sha512 m.sha512)
      HashWrong
  refuse_if (has_no_known_hash t.hashes) NoKnownHash

abbrev pub given_content : Target → Given → Result ⊤ Fault
given_content t (Whole at bytes) = content None (Some t.length) (Some t.hashes) bytes
given_content t (Measured at m) = measured_content t m

abbrev pub given_checked : Givens → Checks
given_checked given consistent t = do
  found ← or_refuse (given_for given consistent t) Missing
  given_content t found

-- # Digests that are listed and not given.

-- the digest is given if it is listed
abbrev pub is_covered : Option (List ℕ) → Option (List ℕ) → Bool
is_covered listed given = not (is_some listed) || is_some given

-- enough is given of the file to check the target: each digest that is listed
abbrev pub covers : Option Given → Target → Bool
covers (Some (Measured at m)) t =
    is_covered t.hashes.sha256 m.sha256 && is_covered t.hashes.sha512 m.sha512
covers other t = true

-- so it is of each target that a search found
abbrev pub AreCovered : Givens → Course → Type 0
AreCovered given c =
    All (λ s. IfSome (target_of s)
    (λ t. covers (given_for given c.trusted.root.reading.consistent t) t ≡ true)) c.searches

-- # What is requested, and on which files.

abbrev pub request_for : Job → State → Request
request_for job trusted = record {
  trusted = trusted;
  moment = moment_at job.moment;
  wanted = paths_of job.wanted.now;
  limit = job.limit;
}

-- the job's metadata files, and these targets
abbrev pub repository_for : Job → Files → Repository
repository_for job targets = record { metadata = files_of job.metadata.now; targets = targets }

-- the course of the job from the trusted state
abbrev pub course_for : Job → State → Course
course_for job trusted = course (request_for job trusted) (files_of job.metadata.now)

-- # Why a job fails.

-- the text is no state, for a reason other than memory
abbrev pub IsNoState : Result State StateFault → Type 0
IsNoState r = (e : StateFault) × ((e ≢ state.NoMemory) × (r ≡ Err e))

abbrev pub AreNamed : List File → Type 0
AreNamed files = All (λ f. IsUtf8 f.name.now) files

abbrev pub AreDigestsNamed : List Digests → Type 0
AreDigestsNamed digests = All (λ d. IsUtf8 d.name.now) digests

abbrev pub AreTexts : List Bytes → Type 0
AreTexts paths = All (λ p. IsUtf8 p.bytes.now) paths

-- out of memory, or these aren't all texts
abbrev pub IsNoText : Type 0 → JobFault → Type 0
IsNoText are f = (f ≡ fault.Memory) ⊎ ((f ≡ fault.Name) × (are → ⊥))

-- the cause of the fault is in the job; of memory nothing is known
abbrev pub HasCause : Job → JobFault → Type 0
HasCause job fault.Memory = Unit {0}
HasCause job fault.State = IsNoState (state_of job.state.now)
HasCause job fault.Name =
    AreNamed job.metadata.now → AreNamed job.targets.now → AreDigestsNamed job.digests.now
    → AreTexts job.wanted.now → ⊥
HasCause job fault.Moment = 2932896 < job.moment / 86400
HasCause job fault.Limit = 1 ≤ job.limit → job.limit ≤ 256 → ⊥

-- the same of a first root
abbrev pub IsNoRoot : List ℕ → JobFault → Type 0
IsNoRoot root f = (f ≡ fault.Memory) ⊎ ((f ≡ fault.State) × IsNoState (root_state root))

-- and of the text of a state
abbrev pub IsNoStateText : List ℕ → JobFault → Type 0
IsNoStateText text f = (f ≡ fault.Memory) ⊎ ((f ≡ fault.State) × IsNoState (state_of text))
