-- The numbers that are changed.
use Rattle.std.proofs.Common.{◌≡◌, ◌↔◌, ℕ, zero, suc, List, [], ◌∷◌, refl, sym, ap, subst, ◌∙◌, arith, Bool, true, false, cond, Option, Some, None, IsSome}
use Rattle.std.specs.Prelude.{All, Contains, IsTrue, map, not, ◌||◌}
use Rattle.std.specs.List.{AllByRecursion, filter, list_any}
use Rattle.std.specs.Ordering.{nat_cmp}
use Rattle.std.specs.BTreeMap as tree
use Rattle.std.specs.BTreeMap.{BTreeMap}
use Rattle.std.proofs.lemmas.Cmp.{nat_cmp_total}
use Rattle.std.proofs.lemmas.Bool.{false≢true}
use Rattle.std.proofs.lemmas.List.Folds.{list_any_none}
use Rattle.std.proofs.lemmas.List.Elements.{All-contains, filter_passes, recursion_from_All, Contains-append_right}
use Rattle.std.proofs.lemmas.Map.Lookups.{exact_unsigned}
use Rattle.std.proofs.lemmas.Map.Views.{btree_map_contains_key_iff}
use Rattle.inofile.specs.Inodes.{is_changed_slot, IsChangedSlot, IsKnownSlot}
use Rattle.inofile.specs.declared.inode_file.ObjectSlot.{ObjectSlot}
use Rattle.inofile.specs.declared.inode_file.ObjectSlot.TheVariants.{AsSettled, Loaded, Changed}

module _ (p : ℕ → Bool) (y : ℕ) (yes : p y ≡ true) where
  keep_rest : (x : ℕ) (b : Bool) (xs : List ℕ) → Contains xs y → Contains (cond b (x ∷ xs) xs) y
  keep_rest x true xs is = Contains-append_right (x ∷ []) xs y is
  keep_rest x false xs is = is

  pub kept : (xs : List ℕ) → Contains xs y → Contains (filter p xs) y
  kept [] (k, lt, is) = absurd (omega (arith, lt))
  kept (x ∷ xs) (zero, lt, is) =
      subst (λ b. Contains (cond b (x ∷ filter p xs) (filter p xs)) y) (sym (ap p is ∙ yes)) (zero, omega arith, is)
  kept (x ∷ xs) (suc k, lt, is) = keep_rest x (p x) (filter p xs) (kept xs (k, omega (arith, lt), is))

pub changed_is : (slot : Option ObjectSlot) → is_changed_slot slot ≡ true → IsChangedSlot slot
changed_is (Some AsSettled) is = absurd (false≢true is)
changed_is (Some (Loaded object)) is = absurd (false≢true is)
changed_is (Some (Changed object)) is = tt
changed_is None is = absurd (false≢true is)

is_changed : (slot : Option ObjectSlot) → IsChangedSlot slot → is_changed_slot slot ≡ true
is_changed (Some AsSettled) is = absurd is
is_changed (Some (Loaded object)) is = absurd is
is_changed (Some (Changed object)) is = refl
is_changed None is = absurd is

pub changed_known : (slot : Option ObjectSlot) → IsChangedSlot slot → IsKnownSlot slot
changed_known (Some AsSettled) is = is
changed_known (Some (Loaded object)) is = absurd is
changed_known (Some (Changed object)) is = tt
changed_known None is = is

some_changed : (slot : Option ObjectSlot) → IsChangedSlot slot → IsSome slot
some_changed (Some slot) is = refl
some_changed None is = absurd is

pub changed_members : (m : BTreeMap ℕ ObjectSlot) (n : ℕ) → Contains (filter (λ k. is_changed_slot (tree.get nat_cmp m k)) (tree.keys m)) n ↔ IsChangedSlot (tree.get nat_cmp m n)
changed_members m n =
    let p : ℕ → Bool = λ k. is_changed_slot (tree.get nat_cmp m k) in (
      (λ there. changed_is (tree.get nat_cmp m n) (All-contains (λ x. p x ≡ true) (filter p (tree.keys m)) n (filter_passes p (tree.keys m)) there)),
      (λ changed. kept p n (is_changed (tree.get nat_cmp m n) changed) (tree.keys m)
          ((btree_map_contains_key_iff nat_cmp_total exact_unsigned m n).0 (some_changed (tree.get nat_cmp m n) changed))),
    )

-- ---- from entry to entry

module _ (p : ℕ → Bool) (q : ℕ × ObjectSlot → Bool) where
  keys_if : (b : Bool) (e : ℕ × ObjectSlot) (es : List (ℕ × ObjectSlot)) → map (λ x. x.0) (cond b (e ∷ es) es) ≡ cond b (e.0 ∷ map (λ x. x.0) es) (map (λ x. x.0) es)
  keys_if true e es = refl
  keys_if false e es = refl

  kept_keys : (es : List (ℕ × ObjectSlot)) → AllByRecursion (λ e. p e.0 ≡ q e) es → map (λ e. e.0) (filter q es) ≡ filter p (map (λ e. e.0) es)
  kept_keys [] same = refl
  kept_keys (e ∷ es) same =
      keys_if (q e) e (filter q es) ∙ ap (λ (ks : List ℕ). cond (q e) (e.0 ∷ ks) ks) (kept_keys es same.1)
      ∙ ap (λ (b : Bool). cond b (e.0 ∷ filter p (map (λ x. x.0) es)) (filter p (map (λ x. x.0) es))) (sym same.0)

-- the keys of the changed entries are those at which a changed one is found
pub entries_changed : (m : BTreeMap ℕ ObjectSlot) → All (λ e. tree.get nat_cmp m e.0 ≡ Some e.1) m.entries
    → map (λ e. e.0) (filter (λ e. is_changed_slot (Some e.1)) m.entries) ≡ filter (λ n. is_changed_slot (tree.get nat_cmp m n)) (tree.keys m)
entries_changed m found =
    let p : ℕ → Bool = λ n. is_changed_slot (tree.get nat_cmp m n) in
    let q : ℕ × ObjectSlot → Bool = λ e. is_changed_slot (Some e.1) in
    kept_keys p q m.entries (recursion_from_All (λ e. p e.0 ≡ q e) m.entries (λ k d lt. ap is_changed_slot (found k d lt)))

-- ---- no change at all

module _ (p : ℕ → Bool) (y : ℕ) (yes : p y ≡ true) where
  any_rest : (b c : Bool) → c ≡ true → (b || c) ≡ true
  any_rest true c is = refl
  any_rest false c is = is

  any_is : (xs : List ℕ) → Contains xs y → list_any p xs ≡ true
  any_is [] (k, lt, is) = absurd (omega (arith, lt))
  any_is (x ∷ xs) (zero, lt, is) = ap (λ (b : Bool). b || list_any p xs) (ap p is ∙ yes)
  any_is (x ∷ xs) (suc k, lt, is) = any_rest (p x) (list_any p xs) (any_is xs (k, omega (arith, lt), is))

none_is : (slot : Option ObjectSlot) → (IsChangedSlot slot → ⊥) → is_changed_slot slot ≡ false
none_is (Some AsSettled) not_changed = refl
none_is (Some (Loaded object)) not_changed = refl
none_is (Some (Changed object)) not_changed = absurd (not_changed tt)
none_is None not_changed = refl

is_none : (b : Bool) → IsTrue (not b) → b ≡ true → ⊥
is_none true none is = absurd (false≢true none)
is_none false none is = false≢true is

pub none_changed : (m : BTreeMap ℕ ObjectSlot) (has : Bool) → has ≡ list_any (λ k. is_changed_slot (tree.get nat_cmp m k)) (tree.keys m)
    → IsTrue (not has) ↔ ((n : ℕ) → IsChangedSlot (tree.get nat_cmp m n) → ⊥)
none_changed m has is =
    let p : ℕ → Bool = λ k. is_changed_slot (tree.get nat_cmp m k) in (
      (λ none n changed. is_none has none (is ∙ any_is p n (is_changed (tree.get nat_cmp m n) changed) (tree.keys m)
          ((btree_map_contains_key_iff nat_cmp_total exact_unsigned m n).0 (some_changed (tree.get nat_cmp m n) changed)))),
      (λ none. ap not (is ∙ list_any_none p (tree.keys m) (λ i d lt. none_is (tree.get nat_cmp m _) (none _)))),
    )
