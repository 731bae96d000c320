use Rattle.std.proofs.Common.{◌≡◌, ◌++◌, OnOk, string_bytes, subst, sym}
use Rattle.whys.specs.Whys as spec
use Rattle.whys.proofs.lines.push_reason.Goals as goal

pub returns-in-VersionWrong : goal.returns-in-VersionWrong
returns-in-VersionWrong c =
    subst (λ r. OnOk c.push_pair-in-VersionWrong.result (string_bytes c.push_pair-in-VersionWrong.new.text ≡ string_bytes c.args.text.now ++ spec.reason_text c.args.place.now r))
    (sym c.in-VersionWrong.is) c.push_pair-in-VersionWrong.ensures

pub returns-in-TrustedExpired : goal.returns-in-TrustedExpired
returns-in-TrustedExpired c =
    subst (λ r. OnOk c.push_expiry-in-TrustedExpired.result (string_bytes c.push_expiry-in-TrustedExpired.new.text ≡ string_bytes c.args.text.now ++ spec.reason_text c.args.place.now r))
    (sym c.in-TrustedExpired.is) c.push_expiry-in-TrustedExpired.ensures
