-- Lists and their parts, and names and their paths.
use Rattle.std.specs.Prelude.{◌≡◌, refl, codes, true, false, [], ◌∷◌}
use Rattle.paths.specs.Lists.{parts}
use Rattle.paths.specs.Names.{is_hash, path_of}

pub nothing : parts 10 [] ≡ []
unfolding parts
nothing = refl

pub ended : parts 10 (codes "a\nbc\n") ≡ codes "a" ∷ codes "bc" ∷ []
unfolding parts
ended = refl

pub unended : parts 10 (codes "a\nbc") ≡ codes "a" ∷ codes "bc" ∷ []
unfolding parts
unended = refl

pub empty_between : parts 10 (codes "a\n\nb") ≡ codes "a" ∷ [] ∷ codes "b" ∷ []
unfolding parts
empty_between = refl

pub empty_last : parts 10 (codes "a\n\n") ≡ codes "a" ∷ [] ∷ []
unfolding parts
empty_last = refl

pub by_nul : parts 0 (97 ∷ 10 ∷ 0 ∷ 98 ∷ 0 ∷ []) ≡ (97 ∷ 10 ∷ []) ∷ (98 ∷ []) ∷ []
unfolding parts
by_nul = refl

-- ---- names under a digest

pub sha256 : path_of true (codes "e3b0c44298fc1c149afbf4c8996fb92427ae41e4649b934ca495991b7852b855.abc.txt") ≡ codes "abc.txt"
unfolding is_hash
sha256 = refl

pub sha512 : path_of true (codes "cf83e1357eefb8bdf1542850d66d8007d620e4050b5715dc83f4a921d36ce9ce47d0d13c5d85f2b0ff8318d2877eec2f63b931bd47417a81a538327af927da3e.abc.txt") ≡ codes "abc.txt"
unfolding is_hash
sha512 = refl

pub in_folders : path_of true (codes "d/e/e3b0c44298fc1c149afbf4c8996fb92427ae41e4649b934ca495991b7852b855.abc.txt") ≡ codes "d/e/abc.txt"
unfolding is_hash
in_folders = refl

pub digest_of_a_folder : path_of true (codes "e3b0c44298fc1c149afbf4c8996fb92427ae41e4649b934ca495991b7852b855.d/abc.txt") ≡ codes "e3b0c44298fc1c149afbf4c8996fb92427ae41e4649b934ca495991b7852b855.d/abc.txt"
unfolding is_hash
digest_of_a_folder = refl

pub digest_twice : path_of true (codes "e3b0c44298fc1c149afbf4c8996fb92427ae41e4649b934ca495991b7852b855.e3b0c44298fc1c149afbf4c8996fb92427ae41e4649b934ca495991b7852b855.abc") ≡ codes "e3b0c44298fc1c149afbf4c8996fb92427ae41e4649b934ca495991b7852b855.abc"
unfolding is_hash
digest_twice = refl

pub no_digest : path_of true (codes "abc.txt") ≡ codes "abc.txt"
unfolding is_hash
no_digest = refl

pub short_digest : path_of true (codes "3b0c44298fc1c149afbf4c8996fb92427ae41e4649b934ca495991b7852b855.abc") ≡ codes "3b0c44298fc1c149afbf4c8996fb92427ae41e4649b934ca495991b7852b855.abc"
unfolding is_hash
short_digest = refl

pub upper_case : path_of true (codes "E3B0C44298FC1C149AFBF4C8996FB92427AE41E4649B934CA495991B7852B855.abc") ≡ codes "E3B0C44298FC1C149AFBF4C8996FB92427AE41E4649B934CA495991B7852B855.abc"
unfolding is_hash
upper_case = refl

pub without_dot : path_of true (codes "e3b0c44298fc1c149afbf4c8996fb92427ae41e4649b934ca495991b7852b855") ≡ codes "e3b0c44298fc1c149afbf4c8996fb92427ae41e4649b934ca495991b7852b855"
unfolding is_hash
without_dot = refl

pub plain_names : path_of false (codes "e3b0c44298fc1c149afbf4c8996fb92427ae41e4649b934ca495991b7852b855.abc.txt") ≡ codes "e3b0c44298fc1c149afbf4c8996fb92427ae41e4649b934ca495991b7852b855.abc.txt"
unfolding is_hash
plain_names = refl
