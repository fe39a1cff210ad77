-- Keys, and that the events on a key are lawful.
use Rattle.std.proofs.Common.{◌≡◌, ℕ, Bool, true, false, cond, None, Some, List, refl, ◌∙◌, ap, sym, subst}
use Rattle.std.specs.declared.cmp.Ordering.{Ordering}
use Rattle.std.specs.declared.cmp.Ordering.TheVariants.{Less, Equal, Greater}
use Rattle.std.specs.Ordering.{nat_cmp, is_eq}
use Rattle.std.specs.Cmp.{eq_by_cmp_equiv}
use Rattle.std.specs.Cmp.Lexicographic.{slice_cmp}
use Rattle.std.proofs.lemmas.Cmp.{nat_list_cmp_total}
use Rattle.std.proofs.lemmas.Map.Lookups.{exact_bytes}
use Rattle.mrdt_model.specs.Executions.{Event, IsLawful}
use Rattle.mrdt_model.proofs.Parts.{part-lawful}
use Rattle.mrdt_map.specs.declared.map.OnKey.{OnKey}
use Rattle.mrdt_map.specs.Keyed.{same_key, at_key, on_key, IsOnKey, key_reply}

pub same_key-eq : (j k : List ℕ) → same_key j k ≡ true → j ≡ k
same_key-eq j k h = exact_bytes j k (equal (slice_cmp nat_cmp j k) h)
  where
    equal : (o : Ordering) → is_eq o ≡ true → o ≡ Equal
    equal Less h = cc
    equal Equal h = refl
    equal Greater h = cc

pub same_key-refl : (k : List ℕ) → same_key k k ≡ true
same_key-refl k = (eq_by_cmp_equiv nat_list_cmp_total).refl k

pub same_key-sym : (j k : List ℕ) → same_key j k ≡ same_key k j
same_key-sym j k = (eq_by_cmp_equiv nat_list_cmp_total).symm j k

chosen : {A : Type 0} (b : Bool) (x c : A) → cond b (Some x) None ≡ Some c → (b ≡ true) × (x ≡ c)
chosen true x c h = (refl, cc)
chosen false x c h = cc

module _ {O R : Type 0} (is_op : O → Type 0) (is_reply : R → Type 0) (reply_of : List (Event O R) → O → R) where
  known : (k : List ℕ) (o : OnKey O) (r : R) (c : O × R) → at_key k o r ≡ Some c → IsOnKey is_op o → is_reply r → is_op c.0 × is_reply c.1
  known k o r c h op reply =
      let e = chosen {A = O × R} (same_key k o.key) (o.operation, r) c h in
      (subst (λ (d : O × R). is_op d.0) e.1 op.1, subst (λ (d : O × R). is_reply d.1) e.1 reply)

  agrees : (k : List ℕ) (x : List (Event (OnKey O) R)) (o : OnKey O) (r : R) (c : O × R) → at_key k o r ≡ Some c → r ≡ key_reply reply_of x o → c.1 ≡ reply_of (on_key k x) c.0
  agrees k x o r c h is =
      let e = chosen {A = O × R} (same_key k o.key) (o.operation, r) c h in
      subst (λ (d : O × R). d.1 ≡ reply_of (on_key k x) d.0) e.1 (is ∙ ap (λ j. reply_of (on_key j x) o.operation) (sym (same_key-eq k o.key e.0)))

  -- the events on a key are lawful
  pub on_key-lawful : (k : List ℕ) (x : List (Event (OnKey O) R)) → IsLawful (IsOnKey is_op) is_reply (key_reply reply_of) x → IsLawful is_op is_reply reply_of (on_key k x)
  on_key-lawful k x l = part-lawful (at_key k) (IsOnKey is_op) is_reply is_op is_reply (known k) (key_reply reply_of) reply_of (agrees k) x l
