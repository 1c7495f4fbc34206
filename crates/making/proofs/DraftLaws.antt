-- Drafts that grow, and files that are planned over nothing.
use Rattle.std.proofs.Common.{◌≡◌, ◌⊎◌, inl, inr, ◌↔◌, ◌≤◌, ℕ, Bool, true, false, List, length, refl, ap, sym, subst, ◌∙◌, arith}
use Rattle.std.proofs.lemmas.Bool.{cases_Bool}
use Rattle.std.specs.Prelude.{Err, IsErrOf, Ok, Result}
use Rattle.std.specs.Int.{bit_at}
use Rattle.model.specs.Attributes.{FitAttributes, no_attributes}
use Rattle.model.proofs.AttributeLaws.{new_fit}
use Rattle.layout.specs.Trees.{has_attributes}
use Rattle.layout.specs.Inode.{FitsKind}
use Rattle.layout.specs.Limits.{Sizes}
use Rattle.layout.specs.Places.{Blocks}
use Rattle.layout.specs.declared.inode.Inode.{Inode}
use Rattle.layout.specs.declared.trees.Layout.{Layout}
use Rattle.blocktree.specs.declared.tree.BlockTree.{BlockTree}
use Rattle.blockmap.specs.Maps.{entry_at}
use Rattle.blockmap.specs.Parts.{Part}
use Rattle.conspoint.specs.Drafts.{Grows, IsShortage, OnEach, WasTaken}
use Rattle.conspoint.specs.Marks.{AreMarked}
use Rattle.conspoint.specs.declared.error.PlanError.{PlanError}
use Rattle.conspoint.specs.declared.error.PlanError.TheVariants.{NoMemory, Device, NoSpace, Damaged}
use Rattle.buffers.specs.Failures.{HasGrown}
use Rattle.conspoint.specs.declared.draft.Draft.{Draft}
use Rattle.images.specs.BlockMap.{HasBit}
use Rattle.images.specs.Nodes.{held, Agrees, Names}
use Rattle.images.specs.Roots.{free_inode}
use Rattle.images.specs.Soundness.{IsSoundFile}
use Rattle.inode.specs.Bases.{IsBased, anew, over}
use Rattle.inode.specs.Files.{IsFile}
use Rattle.inode.specs.declared.object.Status.{Status}
use Rattle.inode.specs.declared.object.Object.{Object}
use Rattle.layout.specs.declared.kind.Kind.{Kind}
use Rattle.placement.specs.Files.{IsBasedOn, IsChangeOf, IsPlaced, is_one, none}
use Rattle.making.specs.Plans.{HasFileOn}
use Rattle.making.specs.Starts.{nothing}
use Rattle.std.specs.Result.{IsErrAnd}
use Rattle.buffers.specs.declared.blocks.Blocks.{Ghosts}
use Rattle.conspoint.specs.Steps.{Takes}
use Rattle.conspoint.proofs.StepLemmas.{no_error, same_error}
use Rattle.placement.specs.Steps.{ReadsAndPlaces}
use Rattle.placement.proofs.OneLaws.{among, one_of}

-- a file of the system's own, over nothing
based_on : (l : Layout) (t : BlockTree) → IsBased (free_inode l) t → IsBasedOn (free_inode l) t
based_on l t (anew layout count) = none layout refl count
based_on l t (over pointers body has) = absurd (cc)

pub own_change : (s : Sizes) (d : Draft) (o : Object) (kind : Kind) → s.blocks ≡ d.map.count → IsSoundFile s (held nothing (free_inode s.layout)) → ((b : ℕ) → Names (held nothing (free_inode s.layout)) b → ⊥)
    → IsBased (free_inode s.layout) o.file.tree → IsFile nothing o.file → o.status ≡ record { kind = kind; attributes = no_attributes; links = 1 } → FitsKind kind s no_attributes 1 o.file.size
    → IsChangeOf s d nothing (free_inode s.layout) o
own_change s d o kind blocks sound none_named based ends status fits = record {
  blocks = blocks;
  based = based_on s.layout o.file.tree based;
  sound = sound;
  once = λ m i k j b here there. absurd (none_named b (record { height = m; index = i; is = here }));
  used = λ b names free. none_named b names;
  ends = ends;
  attributes = subst (λ (a : Status). FitAttributes (has_attributes s.layout) a.attributes) (sym status) (new_fit (has_attributes s.layout) 0 (omega arith));
  kind = subst (λ (a : Status). FitsKind a.kind s a.attributes a.links o.file.size) (sym status) fits;
}

-- ---- marks

true_false : {t : Bool} {A : Type 0} → t ≡ true → t ≡ false → A
true_false p q = absurd (let e = sym p ∙ q in cc)

marked_in : (taken : List ℕ) (old new : List Part) → AreMarked taken (length taken) true old new → (b : ℕ)
    → HasBit 0 (entry_at new b) ↔ (HasBit 0 (entry_at old b) ⊎ (is_one taken b ≡ true))
marked_in taken old new came b = (
  λ has. elim (cases_Bool (is_one taken b)) [ inl is ↦ inr is | inr isnt ↦ inl (sym (same isnt) ∙ has) ],
  λ either. elim (cases_Bool (is_one taken b)) [
    | inl is ↦ came.marked b (among taken b is)
    | inr isnt ↦ same isnt ∙ elim either [ inl was ↦ was | inr is ↦ true_false is isnt ]
  ],
)
  where
    same : is_one taken b ≡ false → bit_at (entry_at new b) 0 ≡ bit_at (entry_at old b) 0
    same isnt = ap (λ x. bit_at x 0) (came.stay b (λ at. true_false (one_of taken b at) isnt))

-- a file that was placed over nothing, and marked
pub has_file : (IsOne : Blocks → Type 0) (s : Sizes) (old mid new : Draft) (f : Inode) (taken : List ℕ) (freed : ℕ → Bool) → ((b : ℕ) → Names (held nothing (free_inode s.layout)) b → ⊥)
    → Grows mid new → new.map.next ≡ mid.map.next → mid.map.parts.items ≡ old.map.parts.items
    → AreMarked taken (length taken) true mid.map.parts.items new.map.parts.items
    → ((b : ℕ) → is_one taken b ≡ true → WasTaken old mid b)
    → OnEach mid (λ e. Agrees (Names (held nothing (free_inode s.layout))) nothing e → IsOne e → IsPlaced s e (held nothing (free_inode s.layout)) f (is_one taken) freed)
    → HasFileOn IsOne s old new f
has_file IsOne s old mid new f taken freed none_named grows next parts came given placed = record {
  taken = is_one taken;
  given = λ b is. let was = given b is in record { from = was.from; to = omega (arith, was.to, next); within = was.within; free = was.free };
  active = λ b. subst (λ (ps : List Part). HasBit 0 (entry_at new.map.parts.items b) ↔ (HasBit 0 (entry_at ps b) ⊎ (is_one taken b ≡ true))) parts
      (marked_in taken mid.map.parts.items new.map.parts.items came b);
  others = λ b i other. came.others b i other ∙ ap (λ (ps : List Part). bit_at (entry_at ps b) i) parts;
  stands = λ e has one.
      let p = placed e (grows.has e has) (λ b names. absurd (none_named b names)) one in
      record {
        named = λ b. (λ names. elim (p.moves names.height names.index b names.is) [ inl was ↦ absurd (none_named b (record { height = names.height; index = names.index; is = was })) | inr is ↦ is ], p.named b);
        once = p.once;
        sound = p.sound;
      };
}

-- ---- refusals

-- over a disk that nothing is read from, only a shortage refuses a plan
pub shortage : {T : Type 0} (e : PlanError) → (IsErrOf {T = T} (Err e) Device → HasGrown 0 0) → (IsErrOf {T = T} (Err e) Damaged → ⊥) → IsShortage e
shortage NoMemory device damaged = tt
shortage NoSpace device damaged = tt
shortage Device device damaged = (let grown = device refl in absurd (omega (arith, grown)))
shortage Damaged device damaged = damaged refl

-- a file that is placed over nothing takes so many blocks
pub placed_takes : {B T : Type 0} {G : Ghosts B} {v : T} {n k : ℕ} {x y : B} {a b : Draft} → ReadsAndPlaces G n x y a b (Ok v) → n ≤ k → Takes k a b (Ok v)
placed_takes step le = record { grows = step.grows; others = step.others; takes = omega (arith, le, step.takes); lacks = λ bad. no_error NoSpace bad; shortage = tt }

-- and where it isn't placed, so many aren't left
pub placed_fails : {B T U : Type 0} {G : Ghosts B} {e : PlanError} {n k : ℕ} {x y : B} {a b : Draft} (q : Result U PlanError) → IsErrAnd q (λ g. g ≡ e) → IsShortage e
    → ReadsAndPlaces {T = T} G n x y a b (Err e) → n ≤ k → Takes k a b q
placed_fails (Ok w) is short step le = absurd is
placed_fails {e = e} (Err g) is short step le = record {
  grows = step.grows;
  others = step.others;
  takes = tt;
  lacks = λ bad. (let few = step.lacks (same_error g e NoSpace is bad) in omega (arith, le, few));
  shortage = subst IsShortage (sym is) short;
}
