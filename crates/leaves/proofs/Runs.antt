-- Runs, one step on and one after the other.
use Rattle.std.proofs.Common.{◌≡◌, ◌≢◌, ◌∙◌, ℕ, ◌+◌, ◌<◌, ◌≤◌, List, [], ◌∷◌, ◌++◌, map, Option, Some, None, All, IsSomeAnd, sym, subst, ap, inl, inr, refl, true, arith}
use Rattle.std.proofs.lemmas.List.{append-nil, append_assoc, append_cancel_left}
use Rattle.std.proofs.lemmas.List.Elements.{All-nil, All-cons, All-head, All-tail, All-append, All-weaker, All-map}
use Rattle.leaves.specs.Leaves.{leaf_of, reserved_in, reserved_of}
use Rattle.leaves.specs.Disk.{Left, HasNoMore, IsQuiet, IsStoring, IsHanding, LeavesOnly, Passes}
use Rattle.leaves.specs.Runs.{IsReserved, AreDifferent, IsRun, Run, AreRuns, IsSafe, left_by, signatures}
use Rattle.std.specs.Prelude.{IsTrue, Vec, option_map}
use Rattle.std.specs.declared.alloc.Global.{Global}
use Rattle.lms.specs.Lms.{is_valid}
use Rattle.leaves.specs.Reserved.{AreSigned, HasSigned, IsReserving, IsSpending, MayBeForeign, MayHaveFewer, Reserves}
use Rattle.leaves.proofs.Passing.{at_end, goes_on, stays, wider}

-- ---- different numbers

pub different_append : (xs ys : List ℕ) → AreDifferent xs → AreDifferent ys → All (λ x. All (λ y. x ≢ y) ys) xs
    → AreDifferent (xs ++ ys)
different_append [] ys a b apart = b
different_append (x ∷ xs) ys a b apart = (
  All-append (λ p. x ≢ p) xs ys a.0 (All-head (λ z. All (λ y. z ≢ y) ys) x xs apart),
  different_append xs ys a.1 b (All-tail (λ z. All (λ y. z ≢ y) ys) x xs apart),
)

pub map-append : {X Y : Type 0} (f : X → Y) (xs ys : List X) → map f (xs ++ ys) ≡ map f xs ++ map f ys
map-append f [] ys = refl
map-append f (x ∷ xs) ys = ap (λ r. f x ∷ r) (map-append f xs ys)

-- of leaves that are apart
pub leaves_append : (xs ys : List (List ℕ)) → AreDifferent (map leaf_of xs) → AreDifferent (map leaf_of ys)
    → All (λ x. All (λ y. leaf_of x ≢ leaf_of y) ys) xs → AreDifferent (map leaf_of (xs ++ ys))
leaves_append xs ys a b apart =
    rw (map-append leaf_of xs ys) (different_append (map leaf_of xs) (map leaf_of ys) a b
    (All-map (λ x. All (λ y. x ≢ y) (map leaf_of ys)) leaf_of xs
    (All-weaker (λ x. All (λ y. leaf_of x ≢ leaf_of y) ys) (λ x. All (λ y. leaf_of x ≢ y) (map leaf_of ys))
    (λ x each. All-map (λ y. leaf_of x ≢ y) leaf_of ys each) xs apart)))

-- ---- a reserved leaf

below_of : (o : Option ℕ) (q n : ℕ) → o ≡ Some n → IsSomeAnd o (λ m. q < m) → q < n
below_of o q n e h = rw e at h

of_below : (o : Option ℕ) (q n : ℕ) → o ≡ Some n → q < n → IsSomeAnd o (λ m. q < m)
of_below o q n e lt = rw e lt

-- ---- steps

pub run_quiet : (public : List ℕ) (a b : Left) → IsQuiet a b → IsRun public a b
run_quiet public a b q = record {
  new = [];
  given = q.given ∙ sym (append-nil a.given);
  different = tt;
  fresh = All-nil _;
  reserved = All-nil _;
  kept = λ n held file may. held file (q.files file may);
}

pub quiet_refl : (a : Left) → IsQuiet a a
quiet_refl a = record { files = λ f may. may; given = refl }

pub quiet_quiet : (a b c : Left) → IsQuiet a b → IsQuiet b c → IsQuiet a c
quiet_quiet a b c p q = record { files = λ f may. p.files f (q.files f may); given = q.given ∙ p.given }

-- a text is stored that has reserved no less
pub run_storing : (public : List ℕ) (a b c : Left) (text : List ℕ) (end : ℕ) → IsQuiet a b → IsStoring text b c
    → reserved_in public (Some text) ≡ Some end → ((q : ℕ) → IsReserved public a q → q < end) → IsRun public a c
run_storing public a b c text end quiet storing reads more = record {
  new = [];
  given = storing.given ∙ quiet.given ∙ sym (append-nil a.given);
  different = tt;
  fresh = All-nil _;
  reserved = All-nil _;
  kept = λ q held file may. elim (storing.files file may) [
    | inl was ↦ held file (quiet.files file was)
    | inr new ↦ rw new (of_below (reserved_in public (Some text)) q end reads (more q held))
  ];
}

-- no leaf is reserved where a file may be missing
pub none_reserved : (public : List ℕ) (a : Left) (q : ℕ) → a.may_leave None ≡ true → IsReserved public a q → ⊥
none_reserved public a q missing held = held None missing

-- what was read was possible
pub was_missing : (a : Left) (o : Option (Vec ℕ Global)) → o ≡ None → a.may_leave (option_map (λ v. v.items) o) ≡ true
    → a.may_leave None ≡ true
was_missing a o is was = rw is at was

pub was_there : (a : Left) (o : Option (Vec ℕ Global)) (text : Vec ℕ Global) → o ≡ Some text
    → a.may_leave (option_map (λ v. v.items) o) ≡ true → a.may_leave (Some text.items) ≡ true
was_there a o text is was = rw is at was

-- what was read is of another key
pub foreign_read : (public : List ℕ) (a : Left) (o : Option (Vec ℕ Global)) (text : Vec ℕ Global) → o ≡ Some text
    → a.may_leave (option_map (λ v. v.items) o) ≡ true → reserved_of public text.items ≡ None → MayBeForeign public a
foreign_read public a o text is was reads = (text.items, was_there a o text is was, reads)

-- what was read leaves too few
pub fewer_read : (public : List ℕ) (leaves n first : ℕ) (a : Left) (o : Option (Vec ℕ Global)) (text : Vec ℕ Global) → o ≡ Some text
    → a.may_leave (option_map (λ v. v.items) o) ≡ true → reserved_of public text.items ≡ Some first → leaves < first + n
    → MayHaveFewer public leaves n a
fewer_read public leaves n first a o text is was reads few = (text.items, first, was_there a o text is was, reads, few)

-- each that is reserved is below the number that was read
pub below_read : (public : List ℕ) (a : Left) (file : Option (List ℕ)) (n q : ℕ) → a.may_leave file ≡ true
    → reserved_in public file ≡ Some n → IsReserved public a q → q < n
below_read public a file n q may reads held = below_of (reserved_in public file) q n reads (held file may)

-- ---- signatures

pub spending_none : (q n : ℕ) (a b : Left) → IsQuiet a b → IsSpending q n a b
spending_none q n a b quiet = record {
  new = [];
  given = quiet.given ∙ sym (append-nil a.given);
  different = tt;
  from = All-nil _;
  below = All-nil _;
  files = quiet.files;
}

pub spending_one : (q : ℕ) (a b : Left) (sig : List ℕ) → IsHanding sig a b → leaf_of sig ≡ q → IsSpending q 1 a b
spending_one q a b sig h leaf = elim h.given [
  | inl same ↦ spending_none q 1 a b (record { files = h.files; given = same })
  | inr more ↦ record {
    new = sig ∷ [];
    given = more;
    different = (All-nil _, tt);
    from = All-cons (λ s. q ≤ leaf_of s) sig [] (omega (arith, leaf)) (All-nil _);
    below = All-cons (λ s. leaf_of s < q + 1) sig [] (omega (arith, leaf)) (All-nil _);
    files = h.files;
  }
]

pub spending_more : (q k m : ℕ) (a b c : Left) → IsSpending q k a b → IsSpending (q + k) m b c → IsSpending q (k + m) a c
spending_more q k m a b c first then = record {
  new = first.new ++ then.new;
  given = then.given ∙ ap (λ g. g ++ then.new) first.given ∙ append_assoc a.given first.new then.new;
  different = leaves_append first.new then.new first.different then.different
      (All-weaker (λ s. leaf_of s < q + k) (λ s. All (λ t. leaf_of s ≢ leaf_of t) then.new)
      (λ s lt. All-weaker (λ t. q + k ≤ leaf_of t) (λ t. leaf_of s ≢ leaf_of t) (λ t le e. omega (arith, lt, le, e)) then.new then.from)
      first.new first.below);
  from = All-append (λ s. q ≤ leaf_of s) first.new then.new first.from
      (All-weaker (λ s. q + k ≤ leaf_of s) (λ s. q ≤ leaf_of s) (λ s le. omega (arith, le)) then.new then.from);
  below = All-append (λ s. leaf_of s < q + (k + m)) first.new then.new
      (All-weaker (λ s. leaf_of s < q + k) (λ s. leaf_of s < q + (k + m)) (λ s lt. omega (arith, lt)) first.new first.below)
      (All-weaker (λ s. leaf_of s < q + k + m) (λ s. leaf_of s < q + (k + m)) (λ s lt. omega (arith, lt)) then.new then.below);
  files = λ f may. first.files f (then.files f may);
}

pub spending_fewer : (q k n : ℕ) (a b : Left) → k ≤ n → IsSpending q k a b → IsSpending q n a b
spending_fewer q k n a b le s = record {
  new = s.new;
  given = s.given;
  different = s.different;
  from = s.from;
  below = All-weaker (λ s. leaf_of s < q + k) (λ s. leaf_of s < q + n) (λ s lt. omega (arith, lt, le)) s.new s.below;
  files = s.files;
}

-- reserved, and then used
pub run_spending : (public : List ℕ) (first n end : ℕ) (a b c : Left) → IsReserving public first end a b
    → b.given ≡ a.given → first + n ≤ end → IsSpending first n b c → IsRun public a c
run_spending public first n end a b c r given le s = record {
  new = s.new;
  given = rw (← given) s.given;
  different = s.different;
  fresh = All-weaker (λ sig. first ≤ leaf_of sig) (λ sig. ¬ IsReserved public a (leaf_of sig))
      (λ sig from held. omega (arith, from, below_read public a r.file first (leaf_of sig) r.was r.read held)) s.new s.from;
  reserved = All-weaker (λ sig. leaf_of sig < first + n) (λ sig. IsReserved public c (leaf_of sig))
      (λ sig lt file may. of_below (reserved_in public file) (leaf_of sig) end (r.stored file (s.files file may)) (omega (arith, lt, le))) s.new s.below;
  kept = λ q held file may. of_below (reserved_in public file) q end (r.stored file (s.files file may))
      (omega (arith, le, below_read public a r.file first q r.was r.read held));
}

-- ---- runs one after the other

safe_begins : (public : List ℕ) (a b : Left) (sigs : List (List ℕ)) → HasNoMore a b → IsSafe public a sigs → IsSafe public b sigs
safe_begins public a b sigs files safe = record {
  different = safe.different;
  reserved = All-weaker (λ sig. IsReserved public a (leaf_of sig)) (λ sig. IsReserved public b (leaf_of sig))
      (λ sig held file may. held file (files file may)) sigs safe.reserved;
}

safe_run : (public : List ℕ) (a b : Left) (sigs new : List (List ℕ)) → (run : IsRun public a b) → run.new ≡ new → IsSafe public a sigs
    → IsSafe public b (sigs ++ new)
safe_run public a b sigs new run same safe = rw (← same) (record {
  different = leaves_append sigs run.new safe.different run.different
      (All-weaker (λ s. IsReserved public a (leaf_of s)) (λ s. All (λ t. leaf_of s ≢ leaf_of t) run.new)
      (λ s held. All-weaker (λ t. ¬ IsReserved public a (leaf_of t)) (λ t. leaf_of s ≢ leaf_of t)
      (λ t fresh e. fresh (subst (IsReserved public a) e held)) run.new run.fresh) sigs safe.reserved);
  reserved = All-append (λ sig. IsReserved public b (leaf_of sig)) sigs run.new
      (All-weaker (λ sig. IsReserved public a (leaf_of sig)) (λ sig. IsReserved public b (leaf_of sig))
      (λ sig held. run.kept (leaf_of sig) held) sigs safe.reserved) run.reserved;
})

pub safe_runs : (public : List ℕ) (left : Left) (sigs : List (List ℕ)) (runs : List Run) → IsSafe public left sigs
    → AreRuns public left runs → IsSafe public (left_by left runs) (sigs ++ signatures runs)
safe_runs public left sigs [] safe are = rw (append-nil sigs) safe
safe_runs public left sigs (r ∷ rs) safe are =
    let same : are.2.new ≡ r.new = append_cancel_left r.start.given are.2.new r.new (sym are.2.given ∙ are.1) in
    rw (← append_assoc sigs r.new (signatures rs))
    (safe_runs public r.cut (sigs ++ r.new) rs
    (safe_run public r.start r.cut sigs r.new are.2 same (safe_begins public left r.start sigs are.0 safe)) are.3)

pub safe_none : (public : List ℕ) (first : Left) → IsSafe public first []
safe_none public first = record { different = tt; reserved = All-nil _ }

-- ---- whole calls

pub only_read : (public : List ℕ) (t0 t1 : ℕ) (x y : ℕ → Left) → Passes t0 t1 x y IsQuiet → Passes t0 t1 x y (IsRun public)
only_read public t0 t1 x y p = wider t0 t1 x y p (λ b. run_quiet public (x t0) b)

-- a text is stored that has reserved no less than what was read
pub read_stored : (public : List ℕ) (t0 t1 t2 : ℕ) (x y z : ℕ → Left) (text : List ℕ) (end : ℕ) → Passes t0 t1 x y IsQuiet
    → Passes t1 t2 y z (IsStoring text) → reserved_in public (Some text) ≡ Some end
    → ((q : ℕ) → IsReserved public (x t0) q → q < end) → Passes t0 t2 x z (IsRun public)
read_stored public t0 t1 t2 x y z text end quiet storing reads more =
    goes_on t0 t1 t2 x y z quiet storing (λ b. run_quiet public (x t0) b)
    (λ c q s. run_storing public (x t0) (y t1) c text end q s reads more)

-- what is reserved once it is stored
pub reserving : (public : List ℕ) (a b : Left) (file : Option (List ℕ)) (text : List ℕ) (first end : ℕ) → LeavesOnly b text
    → a.may_leave file ≡ true → reserved_in public file ≡ Some first → reserved_in public (Some text) ≡ Some end
    → IsReserving public first end a b
reserving public a b file text first end only was read reads = record {
  file = file;
  was = was;
  read = read;
  stored = λ f may. rw (only f may) reads;
}

-- the number of a text that is there alone
pub only_has : (public text : List ℕ) (end : ℕ) (a : Left) (file : Option (List ℕ)) → LeavesOnly a text
    → reserved_in public (Some text) ≡ Some end → a.may_leave file ≡ true → reserved_in public file ≡ Some end
only_has public text end a file only reads may = rw (only file may) reads

-- what was stored, where nothing was since
pub reserving_since : (public : List ℕ) (first end : ℕ) (a b c : Left) → IsReserving public first end a b → HasNoMore b c
    → IsReserving public first end a c
reserving_since public first end a b c r files = record {
  file = r.file;
  was = r.was;
  read = r.read;
  stored = λ f may. r.stored f (files f may);
}

-- a signature by the leaf is handed out
pub hands_one : (q t0 t1 : ℕ) (x y : ℕ → Left) (sig : List ℕ) → Passes t0 t1 x y (IsHanding sig) → leaf_of sig ≡ q
    → Passes t0 t1 x y (IsSpending q 1)
hands_one q t0 t1 x y sig p leaf = wider t0 t1 x y p (λ b h. spending_one q (x t0) b sig h leaf)

-- nothing is
pub hands_none : (q n t : ℕ) (x : ℕ → Left) → Passes t t x x (IsSpending q n)
hands_none q n t x = stays t x (spending_none q n (x t) (x t) (quiet_refl (x t)))

-- one more
pub hands_more : (q k t0 t1 t2 : ℕ) (x y z : ℕ → Left) → Passes t0 t1 x y (IsSpending q k) → Passes t1 t2 y z (IsSpending (q + k) 1)
    → Passes t0 t2 x z (IsSpending q (k + 1))
hands_more q k t0 t1 t2 x y z first then =
    goes_on t0 t1 t2 x y z first then (λ b s. spending_fewer q k (k + 1) (x t0) b (omega arith) s)
    (λ c a s. spending_more q k 1 (x t0) (y t1) c a s)

pub hands_fewer : (q k n t0 t1 : ℕ) (x y : ℕ → Left) → k ≤ n → Passes t0 t1 x y (IsSpending q k) → Passes t0 t1 x y (IsSpending q n)
hands_fewer q k n t0 t1 x y le p = wider t0 t1 x y p (λ b s. spending_fewer q k n (x t0) b le s)

-- reserved, and then used
pub reserved_used : (public : List ℕ) (first n end t0 t1 t2 : ℕ) (x y z : ℕ → Left) → Passes t0 t1 x y (IsRun public)
    → IsReserving public first end (x t0) (y t1) → (y t1).given ≡ (x t0).given → first + n ≤ end
    → Passes t1 t2 y z (IsSpending first n) → Passes t0 t2 x z (IsRun public)
reserved_used public first n end t0 t1 t2 x y z begun r given le p =
    goes_on t0 t1 t2 x y z begun p (λ b run. run) (λ c run s. run_spending public first n end (x t0) (y t1) c r given le s)

-- and no more than these are reserved
pub reserves_last : (public : List ℕ) (leaves first n q t1 t2 : ℕ) (a : Left) (y z : ℕ → Left) → first + n ≤ leaves
    → IsReserving public first (first + n) a (y t1) → Passes t1 t2 y z (IsSpending q n) → Reserves public leaves n a (z t2)
reserves_last public leaves first n q t1 t2 a y z le r p = record {
  first = first;
  within = le;
  reserved = reserving_since public first (first + n) a (y t1) (z t2) r (at_end t1 t2 y z p).files;
}

-- the leaf that comes next
pub hands_next : (q p k t0 t1 t2 : ℕ) (x y z : ℕ → Left) → p ≡ q + k → Passes t0 t1 x y (IsSpending q k) → Passes t1 t2 y z (IsSpending p 1)
    → Passes t0 t2 x z (IsSpending q (k + 1))
hands_next q p k t0 t1 t2 x y z here first then =
    hands_more q k t0 t1 t2 x y z first (subst (λ n. Passes t1 t2 y z (IsSpending n 1)) here then)

AreSigned-push : (public : List ℕ) (messages : List (Vec ℕ Global)) (sigs : List (List ℕ)) (msg : Vec ℕ Global) (sig : List ℕ)
    → AreSigned public messages sigs → IsTrue (is_valid public msg.items sig) → AreSigned public (messages ++ msg ∷ []) (sigs ++ sig ∷ [])
AreSigned-push public [] [] msg sig are is = (is, tt)
AreSigned-push public [] (s ∷ sigs) msg sig are is = absurd are
AreSigned-push public (m ∷ messages) [] msg sig are is = absurd are
AreSigned-push public (m ∷ messages) (s ∷ sigs) msg sig are is = (are.0, AreSigned-push public messages sigs msg sig are.1 is)

-- one more message has its signature
pub signed_more : (public public' : List ℕ) (messages front : List (Vec ℕ Global)) (msg : Vec ℕ Global) (a b c : Left) → public' ≡ public
    → front ≡ messages ++ msg ∷ [] → HasSigned public messages a b
    → (sig : List ℕ) × IsTrue (is_valid public' msg.items sig) × (c.given ≡ b.given ++ sig ∷ []) → HasSigned public front a c
signed_more public public' messages front msg a b c same is done next = (
  done.0 ++ next.0 ∷ [],
  next.2 ∙ ap (λ g. g ++ next.0 ∷ []) done.1 ∙ append_assoc a.given done.0 (next.0 ∷ []),
  rw is (AreSigned-push public messages done.0 msg next.0 done.2 (subst (λ p. IsTrue (is_valid p msg.items next.0)) same next.1)),
)
