-- A folder that stays what it was.
use Rattle.std.proofs.Common.{◌∙◌, refl, arith, inl, inr}
use Rattle.folder.specs.Folders.{Giving, HasFailed, IsSameFolder}

pub same_refl : (a : Giving) → IsSameFolder a a
same_refl a = record { lists = refl; holds = refl; failures = omega arith; place = refl }

pub same_trans : (a b c : Giving) → IsSameFolder a b → IsSameFolder b c → IsSameFolder a c
same_trans a b c p q = record {
  lists = q.lists ∙ p.lists;
  holds = q.holds ∙ p.holds;
  failures = let x = p.failures in let y = q.failures in omega arith;
  place = q.place ∙ p.place;
}

-- a failure after the folder stayed what it was
pub failed_since : (a b c : Giving) → IsSameFolder a b → HasFailed b c → HasFailed a c
failed_since a b c p (inl less) = let x = p.failures in inl (omega arith)
failed_since a b c p (inr full) = inr full

-- all of these
pub ruleset sameness = (same_refl, same_trans, failed_since)
