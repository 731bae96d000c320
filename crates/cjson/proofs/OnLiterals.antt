-- What a proof unfolds to compute this crate's definitions on a literal.
use Rattle.std.specs.Prelude.{⊤}
use Rattle.std.specs.Fmt.{digits}
use Rattle.std.specs.Str.{chars, is_utf8}
use Rattle.hex.proofs.OnLiterals.{hex_on_literals}
use Rattle.serde_json.proofs.OnLiterals.{serde_json_on_literals}

unfoldable pub cjson_on_literals : ⊤
unfolding digits chars is_utf8 hex_on_literals serde_json_on_literals
cjson_on_literals = tt
