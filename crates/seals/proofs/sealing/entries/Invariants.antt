use Rattle.std.proofs.Common.{◌≡◌, List, map, fold, take}
use Rattle.std.specs.List.{AllZip}
use Rattle.serde_json.specs.View.{items_view}
use Rattle.cjson.specs.declared.doc.Entry.{Entry}
use Rattle.seals.specs.Sealed.{IsSignedAt, entry_objects, holder, spend, unused, used_of}
use Rattle.seals.proofs.Seals.{NoneUsedUp}
use Rattle.seals.proofs.sealing.entries.Given as goal

-- the entries of the places so far, all keys unchanged, a leaf of each place, and none without one
abbrev pub invariant-loop-place : goal.invariant-loop-place
invariant-loop-place l = record {
  made : (es : List Entry) × (items_view l.entries.items ≡ entry_objects es)
      × AllZip (IsSignedAt (map holder l.fn.signers) l.text) (take l.place-index l.by) es;
  kept : map unused l.signers ≡ map unused l.fn.signers;
  leaves : map used_of l.signers ≡ fold spend (map used_of l.fn.signers) (take l.place-index l.by);
  left : NoneUsedUp l.fn.signers l.by l.place-index;
}
