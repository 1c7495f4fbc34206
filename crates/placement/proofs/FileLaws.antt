-- A file that is laid out is placed.
use Rattle.std.proofs.Common.{◌≡◌, ◌↔◌, inl, inr, ℕ, zero, suc, ◌/◌, ◌%◌, ◌≤◌, List, length, get_or, Contains, refl, ap, sym, subst, ◌∙◌, arith}
use Rattle.std.specs.Prelude.{true, nat_eq}
use Rattle.std.specs.Cmp.{IsEquivalence}
use Rattle.std.proofs.lemmas.Bool.{cases_lt, cond_below, cond_above, eqb-true, eq-eqb}
use Rattle.std.proofs.lemmas.Bool.Decides.{nat_tests}
use Rattle.std.proofs.lemmas.Map.Views.{list_any-from_Contains, Contains-from_any}
use Rattle.layout.specs.Bytes.{zeros}
use Rattle.layout.specs.Inode.{FitsBody}
use Rattle.layout.specs.FileBytes.{byte_in, EndsAt}
use Rattle.layout.specs.Limits.{Sizes}
use Rattle.layout.specs.Places.{Blocks, place, pointed}
use Rattle.layout.specs.Trees.{has_attributes}
use Rattle.layout.specs.declared.inode.Body.{Body}
use Rattle.layout.specs.declared.inode.Body.TheVariants.{Inline, Pointers}
use Rattle.layout.specs.declared.inode.Inode.{Inode}
use Rattle.layout.proofs.SizeLaws.{level_none}
use Rattle.layout.proofs.ZeroLaws.{length-zeros}
use Rattle.model.specs.Attributes.{FitAttributes}
use Rattle.images.specs.Contents.{content_of}
use Rattle.images.specs.Nodes.{held, body_block}
use Rattle.images.specs.Soundness.{IsReadable, IsSoundFile}
use Rattle.images.proofs.EmptyLaws.{none_named}
use Rattle.buffers.specs.Disks.{IsWhole}
use Rattle.blocktree.specs.Places.{block_count}
use Rattle.blocktree.specs.Trees.{settled_block}
use Rattle.inode.specs.Files as files
use Rattle.inode.specs.declared.object.Object.{Object}
use Rattle.conspoint.specs.Blocks.{AreWholeOver}
use Rattle.conspoint.specs.declared.draft.Draft.{Draft}
use Rattle.placement.specs.declared.nodes.Nodes.{Nodes}
use Rattle.placement.specs.Files.{IsBasedOn, IsChangeOf, IsPlaced, file_level, is_one, content_with, object_block, with_first}
use Rattle.placement.specs.Layouts.{inode_with, AreSettledNodes, IsLaidOut}
use Rattle.placement.specs.Nodes.{HasMoved, ArePlacedOver}
use Rattle.layout.proofs.SizeLaws.{level_some}
use Rattle.placement.proofs.InlineLaws.{zero_byte}
use Rattle.placement.proofs.MovedLaws.{moves, named, stays, freed_are, once_after}
use Rattle.placement.proofs.SettledLaws.{blocks_whole}
use Rattle.placement.proofs.StandLaws.{other_first}

nat_equivalence : IsEquivalence nat_eq
nat_equivalence = record {
  refl = λ x. eq-eqb x x refl;
  symm = λ x y. grind (arith, nat_tests);
  congr = λ x y z e. ap (λ k. nat_eq k z) (eqb-true x y e);
}

-- membership of a list, as a test
pub one_of : (xs : List ℕ) (b : ℕ) → Contains xs b → is_one xs b ≡ true
one_of xs b has = list_any-from_Contains nat_equivalence b xs has

pub of_one : (xs : List ℕ) (b : ℕ) → is_one xs b ≡ true → Contains xs b
of_one xs b is = Contains-from_any (λ x y e. eqb-true x y e) b xs is

-- past its size an object has zeros
pub object_ends : (d : Blocks) (o : Object) → files.IsFile d o.file → EndsAt o.file.size (byte_in (object_block d o))
object_ends d o ends p le = elim (cases_lt (p / 4096) (block_count o.file.size)) [
  | inl lt ↦ ap (λ xs. get_or xs (p % 4096) 0) (sym (cond_below (p / 4096) (block_count o.file.size) (files.file_block d o.file (p / 4096)) (zeros 4096) lt)) ∙ ends p le
  | inr ge ↦ ap (λ xs. get_or xs (p % 4096) 0) (sym (cond_above (p / 4096) (block_count o.file.size) (files.file_block d o.file (p / 4096)) (zeros 4096) (zeros 4096) ge refl)) ∙ zero_byte 4096 (p % 4096)
]

-- and so it has with another first block
pub first_ends : (bytes : List ℕ) (block : ℕ → List ℕ) (size : ℕ) → 4096 ≤ size → EndsAt size (byte_in block) → EndsAt size (byte_in (with_first bytes block))
first_ends bytes block size large ends p le =
    ap (λ xs. get_or xs (p % 4096) 0) (sym (other_first (p / 4096) bytes (block (p / 4096)) (λ is. omega (arith, is, le, large)))) ∙ ends p le

-- blocks as memory has them, over settled ones that can be read
module _ (d : Blocks) (base : Inode) (o : Object) (based : IsBasedOn base o.file.tree) (readable : IsReadable (held d base)) where
  below_whole : (i : ℕ) → IsWhole (settled_block o.file.tree.layout d o.file.tree.pointers o.file.tree.depth o.file.tree.kept i)
  unfolding settled_block
  below_whole i =
      let t = o.file.tree in
      let block = pointed d (place t.layout d t.pointers t.depth i) in
      elim (cases_lt i t.kept) [
        | inl lt ↦ subst IsWhole (cond_below i t.kept block (zeros 4096) lt) (blocks_whole d base t based readable i (omega (arith, lt, t.fits.1)))
        | inr ge ↦ subst IsWhole (cond_above i t.kept block (zeros 4096) (zeros 4096) ge refl) (length-zeros 4096)
      ]

  pub object_whole : (first : ℕ) → AreWholeOver o.file.tree first (block_count o.file.size) → (i : ℕ) → first ≤ i → IsWhole (object_block d o i)
  object_whole first over i from = elim (cases_lt i (block_count o.file.size)) [
    | inl lt ↦ subst IsWhole (cond_below i (block_count o.file.size) (files.file_block d o.file i) (zeros 4096) lt) (over i from lt (settled_block o.file.tree.layout d o.file.tree.pointers o.file.tree.depth o.file.tree.kept i) (below_whole i))
    | inr ge ↦ subst IsWhole (cond_above i (block_count o.file.size) (files.file_block d o.file i) (zeros 4096) (zeros 4096) ge refl) (length-zeros 4096)
  ]

-- and with another whole block as the first
pub first_whole : (bytes : List ℕ) (block : ℕ → List ℕ) → IsWhole bytes → ((i : ℕ) → 1 ≤ i → IsWhole (block i)) → (i : ℕ) → IsWhole (with_first bytes block i)
first_whole bytes block first others zero = first
first_whole bytes block first others (suc i) = subst IsWhole (other_first (suc i) bytes (block (suc i)) (λ is. absurd (omega (arith, is)))) (others (suc i) (omega arith))

module _ (s : Sizes) (old new : Draft) (d e : Blocks) (base : Inode) (o : Object) (body : Body) (block : ℕ → List ℕ) (settled placed : Nodes) (change : IsChangeOf s old d base o)
    (known : AreSettledNodes d base o.file.tree settled) (laid : IsLaidOut s e block (inode_with o body) placed) (ends : EndsAt o.file.size (byte_in block)) (over : ArePlacedOver old new settled placed)
    (taken freed : List ℕ) (took : (b : ℕ) → Contains taken b ↔ HasMoved placed settled b) (left : (b : ℕ) → Contains freed b ↔ HasMoved settled placed b) where
  pub content_is : content_of (held e (inode_with o body)) ≡ content_with o block
  unfolding held
  content_is = λ j. record { kind = o.status.kind; attributes = o.status.attributes; links = o.status.links; size = o.file.size; block = λ i. laid.blocks i j }

  -- a file's blocks are whole where it has any
  readable : (1 ≤ file_level o.file → (i : ℕ) → IsWhole (block i)) → (b : Body) → body ≡ b → FitsBody o.file.tree.layout b s.blocks o.file.size → IsReadable (held e (inode_with o body))
  unfolding held
  readable whole (Inline bytes) is fits i x at = absurd (none_named e (inode_with o body) (level_none o.file.tree.layout o.file.size fits.0) x (record { height = 0; index = i; is = at }))
  readable whole (Pointers ps) is fits i x at =
      let stored = (held e (inode_with o body)).bytes 0 i in
      ap length (ap (λ b. body_block b stored i) (sym is) ∙ laid.blocks i) ∙ whole (level_some o.file.tree.layout o.file.size fits.0) i

  base_layout : base.layout ≡ s.layout
  unfolding held
  base_layout = change.sound.inode.layout

  sound_is : (1 ≤ file_level o.file → (i : ℕ) → IsWhole (block i)) → IsSoundFile s (held e (inode_with o body))
  unfolding held
  sound_is whole = record {
    inode = record {
      layout = known.tree ∙ base_layout;
      attributes = subst (λ l. FitAttributes (has_attributes l) o.status.attributes) (sym (known.tree ∙ base_layout)) change.attributes;
      size = o.file.within;
      kind = change.kind;
      body = laid.body;
    };
    indirect = laid.indirect;
    bytes = record {
      readable = readable whole body refl laid.body;
      ends = λ p le. ap (λ xs. get_or xs (p % 4096) 0) (laid.blocks (p / 4096)) ∙ ends p le;
    };
  }

  pub file_placed : (1 ≤ file_level o.file → (i : ℕ) → IsWhole (block i)) → IsPlaced s e (held d base) (inode_with o body) (is_one taken) (is_one freed)
  file_placed whole =
      let before = held d base in
      let after = held e (inode_with o body) in
      record {
        moves = λ m i b is. elim (moves old new before after settled placed known.nodes laid.nodes over change.used change.once m i b is) [
          | inl was ↦ inl was
          | inr moved ↦ inr (one_of taken b ((took b).1 moved))
        ];
        named = λ b is. named old new before after settled placed known.nodes laid.nodes over change.used change.once b ((took b).0 (of_one taken b is));
        stays = λ b names. elim (stays old new before after settled placed known.nodes laid.nodes over change.used change.once b names) [
          | inl there ↦ inl there
          | inr moved ↦ inr (one_of freed b ((left b).1 moved))
        ];
        freed_are = λ b is. freed_are old new before after settled placed known.nodes laid.nodes over change.used change.once b ((left b).0 (of_one freed b is));
        once = once_after old new before after settled placed known.nodes laid.nodes over change.used change.once;
        sound = sound_is whole;
      }
