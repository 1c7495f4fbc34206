-- A number's slot that is set, and the others as they were.
use Rattle.std.proofs.Common.{◌≡◌, ◌≢◌, ◌==◌, ◌↔◌, ℕ, List, sym, ap, subst, ◌∙◌, arith, inl, inr, Option, Some, None, IsSome, Result, OnOk, OnErr, if◌then◌else◌}
use Rattle.std.specs.Ordering.{nat_cmp}
use Rattle.std.specs.BTreeMap.{BTreeMap, get, Updates}
use Rattle.std.proofs.lemmas.Bool.{cases_eq}
use Rattle.std.proofs.lemmas.Bool.Decides.{nat_tests}
use Rattle.layout.specs.declared.inode.Inode.{Inode}
use Rattle.images.specs.Contents.{Content}
use Rattle.inofile.specs.Inodes.{slot_content, slot_object}
use Rattle.inofile.specs.Settled.{settled_content}
use Rattle.inofile.specs.Slots.{IsChangedSlot}
use Rattle.inofile.specs.declared.inode_file.ObjectSlot.{ObjectSlot}
use Rattle.inofile.proofs.VolumeLaws.{inserted, other_slot, present_some}

picks_here : {A : Type 0} (n k : ℕ) (x y : A) → n ≡ k → (if n == k then x else y) ≡ x
picks_here n k x y e = grind (arith, nat_tests)

picks_other : {A : Type 0} (n k : ℕ) (x y : A) → n ≢ k → (if n == k then x else y) ≡ y
picks_other n k x y ne = grind (arith, nat_tests)

module _ (old new : BTreeMap ℕ ObjectSlot) (number : ℕ) (slot : Option ObjectSlot) (up : Updates nat_cmp old new number slot) where
  -- what this slot has, and what stays, hold of each number
  pub each_slot : (P : Option ObjectSlot → Type 0) → P slot → (n : ℕ) → P (get nat_cmp old n) → P (get nat_cmp new n)
  each_slot P here n was = elim (cases_eq n number) [
    | inl e ↦ subst (λ (k : ℕ). P (get nat_cmp new k)) (sym e) (subst P (sym up.1) here)
    | inr ne ↦ subst P (sym (other_slot old new number n slot up ne)) was
  ]

  pub other_objects : (n : ℕ) → n ≢ number → slot_object (get nat_cmp new n) ≡ slot_object (get nat_cmp old n)
  other_objects n ne = ap slot_object (other_slot old new number n slot up ne)

  pub other_changes : (n : ℕ) → n ≢ number → (IsChangedSlot (get nat_cmp new n) ↔ IsChangedSlot (get nat_cmp old n))
  other_changes n ne =
      (λ is. subst IsChangedSlot (other_slot old new number n slot up ne) is, λ was. subst IsChangedSlot (sym (other_slot old new number n slot up ne)) was)

  -- what the objects are, with this one's content here
  pub contents_with : (disk : ℕ → List ℕ) (settled : ℕ → Inode) (here : Option Content) → slot_content disk slot (settled_content disk (settled number)) ≡ here
      → (n : ℕ) → slot_content disk (get nat_cmp new n) (settled_content disk (settled n))
      ≡ (if n == number then here else slot_content disk (get nat_cmp old n) (settled_content disk (settled n)))
  contents_with disk settled here is n = elim (cases_eq n number) [
    | inl e ↦
        ap (λ (k : ℕ). slot_content disk (get nat_cmp new k) (settled_content disk (settled k))) e
        ∙ ap (λ (x : Option ObjectSlot). slot_content disk x (settled_content disk (settled number))) up.1 ∙ is
        ∙ sym (picks_here n number here (slot_content disk (get nat_cmp old n) (settled_content disk (settled n))) e)
    | inr ne ↦
        ap (λ (x : Option ObjectSlot). slot_content disk x (settled_content disk (settled n))) (other_slot old new number n slot up ne)
        ∙ sym (picks_other n number here (slot_content disk (get nat_cmp old n) (settled_content disk (settled n))) ne)
  ]

-- a change that is put in where there is room for it
pub puts : {A E : Type 0} (old new : BTreeMap ℕ ObjectSlot) (number : ℕ) (slot : ObjectSlot) (r : Result A E) → OnOk r (Updates nat_cmp old new number (Some slot))
    → OnErr r (get nat_cmp old number ≡ None) → IsSome (get nat_cmp old number) → Updates nat_cmp old new number (Some slot)
puts old new number slot r updates absent room =
    inserted r (Updates nat_cmp old new number (Some slot)) (get nat_cmp old number) updates absent (present_some (get nat_cmp old number) room)
