-- What memory stands for, number by number.
use Rattle.std.proofs.Common.{◌≡◌, ◌≢◌, ◌↔◌, ◌⊎◌, ℕ, ◌<◌, ◌≤◌, List, refl, sym, ap, subst, ◌∙◌, arith, inl, inr, Option, Some, None, IsSome, is_some, IsTrue, IsFalse, Bool, false, Result, Ok, Err, OnOk, OnErr}
use Rattle.std.specs.Option.{option_map}
use Rattle.std.specs.Ordering.{nat_cmp, is_eq}
use Rattle.std.specs.BTreeMap.{BTreeMap, get, Updates}
use Rattle.std.proofs.lemmas.Bool.{cases_eq, cases_lt, false≢true}
use Rattle.std.proofs.lemmas.Bool.Decides.{nat_tests}
use Rattle.layout.specs.Maps.{IsTaken}
use Rattle.layout.specs.declared.inode.Inode.{Inode}
use Rattle.model.specs.Volumes.{Node, Volume, with_node}
use Rattle.images.specs.Contents.{Content}
use Rattle.images.specs.Sizes.{StandsForIn}
use Rattle.images.specs.Soundness.{Detail}
use Rattle.inode.specs.declared.object.Object.{Object}
use Rattle.inofile.specs.Inodes.{IsKnownSlot, slot_content}
use Rattle.inofile.specs.Objects.{IsAsSettled, IsObjectOrNone, IsSameOrNone, StaysKnown}
use Rattle.inofile.specs.Settled.{content_of_object, held_content, settled_content}
use Rattle.inofile.specs.Volumes.{SlotStandsFor, MapsVolume, HasNoOwn, slot_with}
use Rattle.inofile.specs.declared.inode_file.ObjectSlot.{ObjectSlot}
use Rattle.inofile.specs.declared.inode_file.ObjectSlot.TheVariants.{AsSettled, Loaded, Changed}
use Rattle.inofile.proofs.ObjectLaws.{same_object, same_settled, object_some}
use Rattle.model.proofs.ObjectLaws.{node_here, node_other}

-- ---- other numbers

other_number : (k n : ℕ) → n ≢ k → is_eq (nat_cmp k n) ≡ false
other_number k n ne = grind (arith, nat_tests)

pub other_slot : (old new : BTreeMap ℕ ObjectSlot) (number n : ℕ) (slot : Option ObjectSlot) → Updates nat_cmp old new number slot → n ≢ number → get nat_cmp new n ≡ get nat_cmp old n
other_slot old new number n slot up ne = up.2 n (other_number number n ne)

module _ (detail : Detail) (disk : ℕ → List ℕ) (inodes : ℕ) (settled : ℕ → Inode) (old new : BTreeMap ℕ ObjectSlot) (number : ℕ) (slot : Option ObjectSlot) (up : Updates nat_cmp old new number slot) where
  -- all numbers stand for what they did, and one for this
  pub all_stand : (v w : Volume) → ((n : ℕ) → n ≢ number → w n ≡ v n)
      → ((n : ℕ) → n ≢ number → SlotStandsFor detail disk inodes (settled n) (get nat_cmp old n) (v n))
      → SlotStandsFor detail disk inodes (settled number) slot (w number)
      → (n : ℕ) → SlotStandsFor detail disk inodes (settled n) (get nat_cmp new n) (w n)
  all_stand v w same others here n = elim (cases_eq n number) [
    | inl e ↦
        subst (λ (k : ℕ). SlotStandsFor detail disk inodes (settled k) (get nat_cmp new k) (w k)) (sym e)
        (subst (λ (x : Option ObjectSlot). SlotStandsFor detail disk inodes (settled number) x (w number)) (sym up.1) here)
    | inr ne ↦
        subst (λ (x : Option ObjectSlot). SlotStandsFor detail disk inodes (settled n) x (w n)) (sym (other_slot old new number n slot up ne))
        (subst (λ (x : Option Node). SlotStandsFor detail disk inodes (settled n) (get nat_cmp old n) x) (sym (same n ne)) (others n ne))
  ]

  pub others_stand : (v : Volume) → ((n : ℕ) → n ≢ number → SlotStandsFor detail disk inodes (settled n) (get nat_cmp old n) (v n))
      → (n : ℕ) → n ≢ number → SlotStandsFor detail disk inodes (settled n) (get nat_cmp new n) (v n)
  others_stand v others n ne = subst (λ (x : Option ObjectSlot). SlotStandsFor detail disk inodes (settled n) x (v n)) (sym (other_slot old new number n slot up ne)) (others n ne)

  pub set_stands : (v : Volume) (object : Option Object) (node : Option Node) → slot ≡ Some (Changed object)
      → ((n : ℕ) → n ≢ number → SlotStandsFor detail disk inodes (settled n) (get nat_cmp old n) (v n))
      → IsObjectOrNone detail disk inodes (settled number) object node
      → (n : ℕ) → SlotStandsFor detail disk inodes (settled n) (get nat_cmp new n) (with_node number node v n)
  set_stands v object node is others stands =
      all_stand v (with_node number node v) (λ n ne. node_other number n node v ne) others
      (subst (λ (x : Option ObjectSlot). SlotStandsFor detail disk inodes (settled number) x (with_node number node v number)) (sym is)
      (subst (IsObjectOrNone detail disk inodes (settled number) object) (sym (node_here number number node v refl)) stands))

-- a value that is put in at a key that is there
pub inserted : {A E : Type 0} (r : Result A E) (U : Type 0) (slot : Option ObjectSlot) → OnOk r U → OnErr r (slot ≡ None) → (slot ≡ None → ⊥) → U
inserted (Ok x) U slot updates absent there = updates
inserted (Err e) U slot updates absent there = absurd (there absent)

-- what an error tells
pub of_error : {A E : Type 0} (r : Result A E) (e : E) (P : Type 0) → r ≡ Err e → OnErr r P → P
of_error (Ok x) e P is told = absurd (ok_err x e is)
  where
    ok_err : {A E : Type 0} (x : A) (e : E) → Ok x ≡ Err e → ⊥
    ok_err x e is = cc
of_error (Err d) e P is told = told

pub known_some : (slot : Option ObjectSlot) → IsKnownSlot slot → slot ≡ None → ⊥
known_some slot known none = subst IsKnownSlot none known

pub present_some : (slot : Option ObjectSlot) → IsSome slot → slot ≡ None → ⊥
present_some slot some none = false≢true (subst IsSome none some)

-- ---- one number

pub unknown_stands : (detail : Detail) (disk : ℕ → List ℕ) (inodes : ℕ) (settled : Inode) (slot : Option ObjectSlot) (found : Option Node) → (IsKnownSlot slot → ⊥)
    → SlotStandsFor detail disk inodes settled slot found → StandsForIn detail inodes (held_content disk settled) found
unknown_stands detail disk inodes settled (Some AsSettled) found not stands = stands
unknown_stands detail disk inodes settled (Some (Loaded object)) found not stands = absurd (not tt)
unknown_stands detail disk inodes settled (Some (Changed object)) found not stands = absurd (not tt)
unknown_stands detail disk inodes settled None found not stands = stands

-- a number that is loaded
pub load_stands : (detail : Detail) (disk : ℕ → List ℕ) (inodes : ℕ) (settled inode : Inode) (object : Option Object) (found : Option Node) → inode ≡ settled
    → IsAsSettled disk inode object → IsObjectOrNone detail disk inodes inode object found → SlotStandsFor detail disk inodes settled (Some (Loaded object)) found
load_stands detail disk inodes settled inode object found same settled_is stands =
    subst (λ (i : Inode). IsAsSettled disk i object × IsObjectOrNone detail disk inodes i object found) same (settled_is, stands)

unknown_content : (disk : ℕ → List ℕ) (slot : Option ObjectSlot) (below : Option Content) → (IsKnownSlot slot → ⊥) → slot_content disk slot below ≡ below
unknown_content disk (Some AsSettled) below not = refl
unknown_content disk (Some (Loaded object)) below not = absurd (not tt)
unknown_content disk (Some (Changed object)) below not = absurd (not tt)
unknown_content disk None below not = refl

pub load_same : (disk : ℕ → List ℕ) (settled : ℕ → Inode) (old new : BTreeMap ℕ ObjectSlot) (number : ℕ) (object : Option Object) → Updates nat_cmp old new number (Some (Loaded object))
    → (IsKnownSlot (get nat_cmp old number) → ⊥) → option_map (content_of_object disk) object ≡ settled_content disk (settled number)
    → (n : ℕ) → slot_content disk (get nat_cmp new n) (settled_content disk (settled n)) ≡ slot_content disk (get nat_cmp old n) (settled_content disk (settled n))
load_same disk settled old new number object up not same n = elim (cases_eq n number) [
  | inl e ↦
      subst (λ (k : ℕ). slot_content disk (get nat_cmp new k) (settled_content disk (settled k)) ≡ slot_content disk (get nat_cmp old k) (settled_content disk (settled k))) (sym e)
      (ap (λ (x : Option ObjectSlot). slot_content disk x (settled_content disk (settled number))) up.1 ∙ same ∙ sym (unknown_content disk (get nat_cmp old number) (settled_content disk (settled number)) not))
  | inr ne ↦ ap (λ (x : Option ObjectSlot). slot_content disk x (settled_content disk (settled n))) (other_slot old new number n (Some (Loaded object)) up ne)
]

-- an object that is put back into what memory has of a number
pub back_stands : (detail : Detail) (disk : ℕ → List ℕ) (inodes : ℕ) (settled : Inode) (slot : Option ObjectSlot) (was now : Option Object) (found : Option Node) → IsKnownSlot slot → IsSameOrNone was now
    → StaysKnown inodes disk was now → SlotStandsFor detail disk inodes settled (slot_with was slot) found → SlotStandsFor detail disk inodes settled (slot_with now slot) found
back_stands detail disk inodes settled (Some AsSettled) was now found known same stays stands = absurd known
back_stands detail disk inodes settled (Some (Loaded out)) was now found known same stays stands =
    (same_settled disk settled was now same stands.0, same_object detail disk inodes settled was now found same stays stands.1)
back_stands detail disk inodes settled (Some (Changed out)) was now found known same stays stands = same_object detail disk inodes settled was now found same stays stands
back_stands detail disk inodes settled None was now found known same stays stands = absurd known

-- the file system's own numbers stay without objects
pub own_stay : (number : ℕ) (node : Option Node) (v : Volume) → 3 ≤ number → HasNoOwn v → HasNoOwn (with_node number node v)
own_stay number node v ge own n lt = node_other number n node v (λ e. omega (arith, lt, ge, e)) ∙ own n lt

-- ---- the numbers that are taken

pub record Notes (number : ℕ) (taken : Bool) (old new : List ℕ) : Type 0 where
  pub here : 4 ≤ number → (IsTaken new number ↔ IsTrue taken)
  pub own : number < 4 → (IsTaken new number ↔ IsTaken old number)
  pub others : (k : ℕ) → k ≢ number → (IsTaken new k ↔ IsTaken old k)

pub note_maps : (detail : Detail) (disk : ℕ → List ℕ) (inodes : ℕ) (settled : Inode) (old new : List ℕ) (v : Volume) (number : ℕ) (object : Option Object) (node : Option Node)
    → MapsVolume old v → Notes number (is_some object) old new → IsObjectOrNone detail disk inodes settled object node → MapsVolume new (with_node number node v)
note_maps detail disk inodes settled old new v number object node maps notes is k = elim (cases_eq k number) [
  | inr ne ↦ subst (λ (x : Option Node). IsTaken new k ↔ ((k < 4) ⊎ IsSome x)) (sym (node_other number k node v ne))
      ((λ taken. (maps k).0 ((notes.others k ne).0 taken)), (λ why. (notes.others k ne).1 ((maps k).1 why)))
  | inl e ↦ subst (λ (x : Option Node). IsTaken new k ↔ ((k < 4) ⊎ IsSome x)) (sym (node_here number k node v e))
      (subst (λ (n : ℕ). IsTaken new n ↔ ((n < 4) ⊎ IsSome node)) (sym e) here)
]
  where
    some : IsTrue (is_some object) ↔ IsSome node
    some = object_some detail disk inodes settled object node is

    ordinary : 4 ≤ number → IsTaken new number ↔ ((number < 4) ⊎ IsSome node)
    ordinary ge = (
      (λ taken. inr (some.0 ((notes.here ge).0 taken))),
      (λ why. elim why [ inl lt ↦ absurd (omega arith) | inr there ↦ (notes.here ge).1 (some.1 there) ]),
    )

    own : number < 4 → IsTaken new number ↔ ((number < 4) ⊎ IsSome node)
    own lt = ((λ taken. inl lt), (λ why. (notes.own lt).1 ((maps number).1 (inl lt))))

    here : IsTaken new number ↔ ((number < 4) ⊎ IsSome node)
    here = elim (cases_lt number 4) [ inl lt ↦ own lt | inr ge ↦ ordinary (omega arith) ]

-- a number that isn't taken has no object
pub free_number : (bytes : List ℕ) (v : Volume) (number : ℕ) (taken : Bool) → MapsVolume bytes v → (IsTrue taken ↔ IsTaken bytes number) → IsFalse taken → v number ≡ None
free_number bytes v number taken maps tells free = none_there (v number) (λ some. false≢true (sym free ∙ tells.1 ((maps number).1 (inr some))))
  where
    none_there : (o : Option Node) → (IsSome o → ⊥) → o ≡ None
    none_there None empty = refl
    none_there (Some x) empty = absurd (empty refl)
