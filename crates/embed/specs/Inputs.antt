-- What the program reads of a job. Only clauses of private functions use this.
use Rattle.std.specs.Prelude.{◌≡◌, List, Ok, Option, map, option_map, string_bytes, String}
use Rattle.std.specs.BTreeMap.{BTreeMap, get_by_text}
use Rattle.std.specs.declared.alloc.Global.{Global}
use Rattle.examine.specs.Checks.{file_in}
use Rattle.rolechain.specs.Text.{state_of}
use Rattle.embed.specs.declared.held.Held.{Held}
use Rattle.embed.specs.declared.held.Held.TheVariants as held
use Rattle.embed.specs.declared.input.Input.{Input}
use Rattle.embed.specs.declared.job.Job.{Job}
use Rattle.embed.specs.Jobs.{Given, Whole, Measured, Givens, files_of, measure_in, moment_at, paths_of}

-- the input is that of the job
pub record IsInput (job : Job) (i : Input) : Type 0 where
  pub trusted : state_of job.state.now ≡ Ok i.trusted
  pub metadata : file_in i.repo.metadata ≡ files_of job.metadata.now
  pub moment : i.moment ≡ moment_at job.moment
  pub wanted : map string_bytes i.wanted.items ≡ paths_of job.wanted.now
  pub limit : i.limits.roles ≡ job.limit

abbrev pub given_by : Held → Given
given_by (held.Bytes at bytes) = Whole at bytes.now
given_by (held.Digests at digests) = Measured at (measure_in digests.now)

abbrev pub givens_by : List (Option Held) → List (Option Given)
givens_by all = map (option_map given_by) all

-- what is given in a map of the program
abbrev pub held_in : BTreeMap (String Global) Held → Givens
held_in all name = option_map given_by (get_by_text all name)
