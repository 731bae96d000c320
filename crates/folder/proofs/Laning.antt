-- Files in lanes, and those that were measured.
use Rattle.std.proofs.Common.{◌≡◌, ◌≢◌, ◌<◌, ℕ, Bool, true, false, if◌then◌else◌, List, [], ◌∷◌, ◌++◌, length, slice_index_or, slice_set, Option, None, Some, IfSome, All, string_bytes, sym, ◌∙◌, ap, subst, arith, inl, inr}
use Rattle.std.proofs.lemmas.Bool.{cases_eq}
use Rattle.std.proofs.lemmas.List.{get_or-set_same, get_or-set_other, length-set}
use Rattle.std.proofs.lemmas.List.Elements.{All-push, All-set}
use Rattle.lanes.specs.Lanes.{lane}
use Rattle.lanes.specs.Pending.{IsPending, Reaches}
use Rattle.lanes.specs.declared.pending.Pending.{Pending}
use Rattle.folder.specs.Streams.{AreLanes, IsInLane, IsOpened, IsStream, message}
use Rattle.folder.specs.declared.stream.Stream.{Stream}
use Rattle.folder.specs.declared.together.Lanes.{Lanes}

-- ---- files that were measured

pub pushed : {X : Type 0} (P : X → Type 0) (is_added : Bool) (old new : List X) (x : X) → new ≡ (if is_added then old ++ x ∷ [] else old) → P x → All P old → All P new
pushed P true old new x is good all = subst (All P) (sym is) (All-push P old x all good)
pushed P false old new x is good all = subst (All P) (sym is) all

-- what holds of the bytes that a reader begins with holds of those of the file, if they are known
pub known_by : (had has : Option (List ℕ)) (P : List ℕ → Type 0) → IsOpened had has → IfSome has P → IfSome had P
known_by None has P is h = tt
known_by (Some xs) has P is h = subst (λ o. IfSome o P) is h

-- ---- lanes

module _ {F : Type 0} (content : List ℕ → Option (List ℕ)) (remaining : F → Option (List ℕ)) where
  pub in_lane : (n l : ℕ) (state : List (List ℕ)) (lanes : Lanes F) (p : Pending) (o : Option (Stream F)) (s : Stream F) → AreLanes content remaining n state lanes → l < n
      → slice_index_or lanes.streams.items l o ≡ Some s
      → IsStream (content (string_bytes s.name)) (remaining s.file) (lane l state) (slice_index_or lanes.rooms.items l p) s
  in_lane n l state lanes p o s are lt is = subst (λ e. IsInLane content remaining (lane l state) (slice_index_or lanes.rooms.items l p) e) is (are.files l p o lt)

  -- one lane has another room and another file
  pub lane_set : (n l : ℕ) (state now : List (List ℕ)) (lanes new : Lanes F) (room : Pending) (o : Option (Stream F)) → AreLanes content remaining n state lanes → l < n
      → new.rooms.items ≡ slice_set lanes.rooms.items l room → length new.streams.items ≡ n
      → ((e : Option (Stream F)) → slice_index_or new.streams.items l e ≡ o)
      → ((i : ℕ) (e : Option (Stream F)) → i ≢ l → slice_index_or new.streams.items i e ≡ slice_index_or lanes.streams.items i e)
      → ((i : ℕ) → i ≢ l → lane i now ≡ lane i state) → IsPending room → IsInLane content remaining (lane l now) room o → AreLanes content remaining n now new
  lane_set n l state now lanes new room o are lt rooms_are streams here there others pending file = record {
    rooms = record {
      rooms = ap length rooms_are ∙ length-set lanes.rooms.items l room ∙ are.rooms.rooms;
      streams = streams;
      pending = subst (All IsPending) (sym rooms_are) (All-set IsPending lanes.rooms.items l room pending are.rooms.pending);
    };
    files = λ i p e in'. elim (cases_eq i l) [
      | inl same ↦
          let r : slice_index_or new.rooms.items l p ≡ room = ap (λ xs. slice_index_or xs l p) rooms_are ∙ get_or-set_same lanes.rooms.items l room p (omega (arith, lt, are.rooms.rooms)) in
          rw same (subst (λ x. IsInLane content remaining (lane l now) x (slice_index_or new.streams.items l e)) (sym r)
          (subst (λ x. IsInLane content remaining (lane l now) room x) (sym (here e)) file))
      | inr other ↦
          let r : slice_index_or new.rooms.items i p ≡ slice_index_or lanes.rooms.items i p = ap (λ xs. slice_index_or xs i p) rooms_are ∙ get_or-set_other lanes.rooms.items l i room p other in
          subst (λ h. IsInLane content remaining h (slice_index_or new.rooms.items i p) (slice_index_or new.streams.items i e)) (sym (others i other))
          (subst (λ x. IsInLane content remaining (lane i state) x (slice_index_or new.streams.items i e)) (sym r)
          (subst (λ x. IsInLane content remaining (lane i state) (slice_index_or lanes.rooms.items i p) x) (sym (there i e other)) (are.files i p e in')))
    ];
  }

  -- the lanes took blocks
  moved : (had has : Option (List ℕ)) (h g : List ℕ) (p q : Pending) (s : Stream F) → ((m : List ℕ) → Reaches h p m → Reaches g q m)
      → IsStream had has h p s → IsStream had has g q s
  moved had has h g p q s reach is = record {
    taken = is.taken;
    counted = is.counted;
    few = is.few;
    consumed = is.consumed;
    has_sha256 = is.has_sha256;
    has_sha512 = is.has_sha512;
    whole = is.whole;
    end = is.end;
    reaches = reach (message s is.taken) is.reaches;
  }

  moved_lane : (h g : List ℕ) (p q : Pending) (o : Option (Stream F)) → ((m : List ℕ) → Reaches h p m → Reaches g q m) → IsInLane content remaining h p o → IsInLane content remaining g q o
  moved_lane h g p q None reach is = tt
  moved_lane h g p q (Some s) reach is = moved (content (string_bytes s.name)) (remaining s.file) h g p q s reach is

  pub lanes_moved : (n : ℕ) (state now : List (List ℕ)) (lanes new : Lanes F) → AreLanes content remaining n state lanes
      → length new.rooms.items ≡ n → All IsPending new.rooms.items → new.streams.items ≡ lanes.streams.items
      → ((i : ℕ) (d : Pending) (m : List ℕ) → i < n → Reaches (lane i state) (slice_index_or lanes.rooms.items i d) m → Reaches (lane i now) (slice_index_or new.rooms.items i d) m)
      → AreLanes content remaining n now new
  lanes_moved n state now lanes new are rooms pending same reach = record {
    rooms = record { rooms = rooms; streams = ap length same ∙ are.rooms.streams; pending = pending };
    files = λ i p e in'.
        subst (λ xs. IsInLane content remaining (lane i now) (slice_index_or new.rooms.items i p) (slice_index_or xs i e)) (sym same)
        (moved_lane (lane i state) (lane i now) (slice_index_or lanes.rooms.items i p) (slice_index_or new.rooms.items i p) _ (λ m. reach i p m in') (are.files i p e in'));
  }
