-- How many leaves the key has, by the first type code.
use Rattle.std.proofs.Common.{◌≡◌, ◌≢◌, ◌^◌, ◌++◌, ◌∙◌, ap, sym, refl, arith, ℕ, List, slice_index, append_assoc}
use Rattle.lms.specs.declared.kind.Kind.{Kind}
use Rattle.lms.specs.Lms.{codes, levels, lms_code, ots_code, u32str}
use Rattle.lms.specs.declared.kind.Height.{Height}
use Rattle.lms.specs.declared.kind.Height.TheVariants.{H5, H10, H15}

fourth_of : (h : Height) (more : List ℕ) → slice_index (u32str (lms_code h) ++ more) 3 ≡ lms_code h
unfolding u32str
fourth_of H5 more = refl
fourth_of H10 more = refl
fourth_of H15 more = refl

fourth : (kind : Kind) (rest public : List ℕ) → public ≡ codes kind ++ rest → slice_index public 3 ≡ lms_code kind.height
fourth kind rest public is =
    ap (λ p. slice_index p 3) (is ∙ append_assoc (u32str (lms_code kind.height)) (u32str (ots_code kind.width)) rest)
    ∙ fourth_of kind.height (u32str (ots_code kind.width) ++ rest)

count_5 : (h : Height) → lms_code h ≡ 5 → 32 ≡ 2 ^ levels h
count_5 H5 is = refl
count_5 H10 is = omega (arith, is)
count_5 H15 is = omega (arith, is)

count_6 : (h : Height) → lms_code h ≡ 6 → 1024 ≡ 2 ^ levels h
count_6 H5 is = omega (arith, is)
count_6 H10 is = refl
count_6 H15 is = omega (arith, is)

count_7 : (h : Height) → lms_code h ≢ 5 → lms_code h ≢ 6 → 32768 ≡ 2 ^ levels h
count_7 H5 is not = omega (arith, is)
count_7 H10 is not = omega (arith, not)
count_7 H15 is not = refl

pub h5 : (kind : Kind) (rest public : List ℕ) → public ≡ codes kind ++ rest → slice_index public 3 ≡ 5 → 32 ≡ 2 ^ levels kind.height
h5 kind rest public is code = count_5 kind.height (sym (fourth kind rest public is) ∙ code)

pub h10 : (kind : Kind) (rest public : List ℕ) → public ≡ codes kind ++ rest → slice_index public 3 ≡ 6 → 1024 ≡ 2 ^ levels kind.height
h10 kind rest public is code = count_6 kind.height (sym (fourth kind rest public is) ∙ code)

pub h15 : (kind : Kind) (rest public : List ℕ) → public ≡ codes kind ++ rest → slice_index public 3 ≢ 5 → slice_index public 3 ≢ 6
    → 32768 ≡ 2 ^ levels kind.height
h15 kind rest public is not_5 not_6 =
    count_7 kind.height (λ e. not_5 (fourth kind rest public is ∙ e)) (λ e. not_6 (fourth kind rest public is ∙ e))
