-- Of the keys that a file lists, there is a reason why an id has no usable one exactly if it has none.
use Rattle.std.proofs.Common.{◌≡◌, ℕ, ◌&&◌, Bool, true, false, List, Option, Some, None, Result, Ok, Err, option_map, if◌then◌else◌, Ordering, Less, Equal, Greater, nat_cmp, codes, refl, sym, ap, subst, ◌∙◌, true≢false}
use Rattle.std.specs.Cmp.Lexicographic.{slice_cmp}
use Rattle.std.specs.Ordering.{match_ordering}
use Rattle.std.proofs.lemmas.Bool.{and_parts}
use Rattle.std.proofs.lemmas.Option.{none-some, same_Some}
use Rattle.serde_json.specs.Data.{Data, object, Members, no_members, member}
use Rattle.serde_json.specs.Find.{get, get_member}
use Rattle.cjson.specs.Canon.{is_ordered, members_are_ordered}
use Rattle.cjson.specs.Document.{document}
use Rattle.cjson.specs.Form.{◌>>=◌, absent_or, needed, ok}
use Rattle.keys.specs.Keys.{ring}
use Rattle.keys.specs.declared.key.Key.{Key}
use Rattle.meta.specs.Metadata as form
use Rattle.meta.specs.declared.delegations.Delegations.{Delegations}
use Rattle.signing.specs.Signers.{IsReasoned}
use Rattle.signing.proofs.Reasons.{bound, reasoned}
use Rattle.rolechain.specs.declared.end.Step.{Step}
use Rattle.ceremony.specs.Required.{Required, by_root, by_targets, delegated_keys, required, root_required, targets_required}
use Rattle.ceremony.specs.SignedBy.{required_in}
use Rattle.ceremony.specs.declared.required.Role.{Role}
use Rattle.ceremony.specs.declared.required.Role.TheVariants.{Top, Delegated}
use Rattle.ceremony.proofs.Documents.{ordered-signed}

-- ---- the names of a member ascend

found-ok : {A E : Type 0} (r : Result A E) (a : A) → ok r ≡ Some a → r ≡ Ok a
found-ok (Ok b) a h = ap (λ b. Ok b) (same_Some b a h)
found-ok (Err e) a h = absurd (none-some a h)

member-at : (o : Ordering) (e d : Data) (rest : Option Data) → is_ordered e ≡ true → (rest ≡ Some d → is_ordered d ≡ true) → match_ordering o rest (Some e) rest ≡ Some d → is_ordered d ≡ true
member-at Less e d rest here more h = more h
member-at Equal e d rest here more h = subst (λ x. is_ordered x ≡ true) (same_Some e d h) here
member-at Greater e d rest here more h = more h

member-ordered : (k : List ℕ) (ms : Members) (d : Data) → members_are_ordered ms ≡ true → get_member k ms ≡ Some d → is_ordered d ≡ true
member-ordered k no_members d o h = absurd (none-some d h)
member-ordered k (member l e ms) d o h =
    let parts = and_parts _ _ (and_parts _ _ o).1 in
    member-at (slice_cmp nat_cmp k l) e d (get_member k ms) parts.0 (member-ordered k ms d parts.1) h

ordered-member : (k : List ℕ) (tree d : Data) → is_ordered tree ≡ true → get k tree ≡ Some d → is_ordered d ≡ true
ordered-member k (object ms) d o h = member-ordered k ms d o h
ordered-member k _ d o h = absurd (none-some d h)

-- ---- a ring is that of its object

ring-at : (tree keys : Data) (r : List Key) → get (codes "keys") tree ≡ Some keys → needed (codes "keys") ring tree ≡ Some r → ring keys ≡ Some r
ring-at tree keys r at is = ap (λ o. o >>= ring) (sym at) ∙ is

root-ring : (d : Data) (r : form.Root) → form.root d ≡ Some r → needed (codes "keys") ring d ≡ Some r.ring
root-ring d r h =
    let a = bound (form.header (codes "root") d) _ r h in
    let b = bound (needed (codes "keys") ring d) _ r a.2 in
    let c = bound (form.role_of (codes "root") d) _ r b.2 in
    let e = bound (form.role_of (codes "timestamp") d) _ r c.2 in
    let f = bound (form.role_of (codes "snapshot") d) _ r e.2 in
    let g = bound (form.role_of (codes "targets") d) _ r f.2 in
    let i = bound (form.flag (codes "consistent_snapshot") d) _ r g.2 in
    b.1 ∙ ap (λ (x : form.Root). Some x.ring) (same_Some _ r i.2)

delegations-ring : (d : Data) (s : Delegations) → form.delegations d ≡ Some s → needed (codes "keys") ring d ≡ Some s.ring
delegations-ring d s h =
    let a = bound (needed (codes "keys") ring d) _ s h in
    let b = bound (form.roles d) _ s a.2 in
    a.1 ∙ ap (λ (x : Delegations). Some x.ring) (same_Some _ s b.2)

targets-delegations : (d : Data) (t : form.Targets) → form.targets d ≡ Some t → absent_or form.delegations (get (codes "delegations") d) ≡ Some t.delegations
targets-delegations d t h =
    let a = bound (form.header (codes "targets") d) _ t h in
    let b = bound (needed (codes "targets") (form.members form.target) d) _ t a.2 in
    let c = bound (absent_or form.delegations (get (codes "delegations") d)) _ t b.2 in
    c.1 ∙ ap (λ (x : form.Targets). Some x.delegations) (same_Some _ t c.2)

-- ---- the law, of either file

of-keys : (signed keys : Data) (r : Required) (o : List Key) → is_ordered signed ≡ true → get (codes "keys") signed ≡ Some keys → needed (codes "keys") ring signed ≡ Some o
    → r.keys ≡ keys → r.ring ≡ o → (id : List ℕ) → IsReasoned r.keys r.ring id
of-keys signed keys r o ordered at is same_keys same_ring id =
    subst (λ k. IsReasoned k r.ring id) (sym same_keys) (subst (λ x. IsReasoned keys x id) (sym same_ring)
    (reasoned keys o (ordered-member (codes "keys") signed keys ordered at) (ring-at signed keys o at is) id))

of-root : (step : Step) (signed : Data) (r : Required) → is_ordered signed ≡ true → by_root step signed ≡ Some r → (id : List ℕ) → IsReasoned r.keys r.ring id
of-root step signed r ordered h id =
    let root = bound (form.root signed) _ r h in
    let keys = bound (get (codes "keys") signed) _ r root.2 in
    let same = same_Some _ r keys.2 in
    of-keys signed keys.0 r root.0.ring ordered keys.1 (root-ring signed root.0 root.1) (sym (ap (λ (x : Required). x.keys) same)) (sym (ap (λ (x : Required). x.ring) same)) id

inner : (o : Option Delegations) (s : Delegations) → option_map Some o ≡ Some (Some s) → o ≡ Some s
inner (Some t) s h = same_Some (Some t) (Some s) h
inner None s h = absurd (none-some _ h)

of-found : (signed : Data) (found : Option Data) (r : Required) (s : Delegations) (keys : Data) → is_ordered signed ≡ true → get (codes "delegations") signed ≡ found
    → absent_or form.delegations found ≡ Some (Some s) → (found >>= λ d. get (codes "keys") d) ≡ Some keys → r.keys ≡ keys → r.ring ≡ s.ring → (id : List ℕ) → IsReasoned r.keys r.ring id
of-found signed None r s keys ordered at is k same_keys same_ring id = absurd (none-some keys k)
of-found signed (Some d) r s keys ordered at is k same_keys same_ring id =
    of-keys d keys r s.ring (ordered-member (codes "delegations") signed d ordered at) k (delegations-ring d s (inner (form.delegations d) s is)) same_keys same_ring id

of-targets : (name : List ℕ) (signed : Data) (r : Required) → is_ordered signed ≡ true → by_targets name signed ≡ Some r → (id : List ℕ) → IsReasoned r.keys r.ring id
of-targets name signed r ordered h id =
    let targets = bound (form.targets signed) _ r h in
    let s = bound targets.0.delegations _ r targets.2 in
    let role = bound (delegated_keys name s.0.roles) _ r s.2 in
    let keys = bound (get (codes "delegations") signed >>= λ d. get (codes "keys") d) _ r role.2 in
    let same = same_Some _ r keys.2 in
    of-found signed (get (codes "delegations") signed) r s.0 keys.0 ordered refl (targets-delegations signed targets.0 targets.1 ∙ ap (λ o. Some o) s.1) keys.1
    (sym (ap (λ (x : Required). x.keys) same)) (sym (ap (λ (x : Required). x.ring) same)) id

of-role : (role : Role) (signed : Data) (r : Required) → is_ordered signed ≡ true → required role signed ≡ Some r → (id : List ℕ) → IsReasoned r.keys r.ring id
of-role (Top step) signed r ordered h id = of-root step signed r ordered h id
of-role (Delegated name) signed r ordered h id = of-targets name.now signed r ordered h id

pub reasoned_in : (role : Role) (listing : List ℕ) (r : Required) → required_in role listing ≡ Some r → (id : List ℕ) → IsReasoned r.keys r.ring id
reasoned_in role listing r h id =
    let by = bound (ok (document listing)) _ r h in
    of-role role by.0.signed r (ordered-signed listing by.0 (found-ok (document listing) by.0 by.1)) by.2 id
