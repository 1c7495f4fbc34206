-- The nodes of a file, from its inode's pointers on.
use Rattle.std.proofs.Common.{◌≡◌, inl, inr, ℕ, zero, suc, ◌-◌, ◌*◌, ◌/◌, ◌^◌, ◌<◌, List, length, get_or, refl, sym, ap, subst, ◌∙◌, arith}
use Rattle.std.specs.Prelude.{Option, Result, Ok, Err}
use Rattle.std.specs.Result.{IsErrAnd}
use Rattle.std.specs.Int.{div_ceil}
use Rattle.std.proofs.lemmas.Bool.{cases_lt}
use Rattle.std.proofs.lemmas.List.{get_or_past}
use Rattle.layout.specs.Inode.{FitsBody, FitsPointers, IsInode}
use Rattle.layout.specs.Limits.{Sizes}
use Rattle.layout.specs.Maps.{IsIndirectBlock}
use Rattle.layout.specs.Places.{Blocks}
use Rattle.layout.specs.Trees.{fan_out, level_of}
use Rattle.layout.specs.declared.inode.Body.{Body}
use Rattle.layout.specs.declared.inode.Body.TheVariants.{Inline, Pointers}
use Rattle.layout.specs.declared.inode.Inode.{Inode}
use Rattle.layout.specs.declared.pointer.Pointer.{Pointer}
use Rattle.layout.specs.declared.pointer.Pointer.TheVariants.{Block, Hole}
use Rattle.layout.specs.declared.trees.Layout.{Layout}
use Rattle.layout.proofs.PointerLaws.{no_block}
use Rattle.layout.proofs.SizeLaws.{level_none, level_some}
use Rattle.blocktree.specs.Names.{nodes_at}
use Rattle.images.specs.Nodes.{held, pointers_of}
use Rattle.images.specs.Soundness.{IsFileGrammar, nodes_of_size}
use Rattle.images.proofs.EmptyLaws.{held_inode, node_bytes}
use Rattle.images.proofs.OverlayLaws.{held_up}
use Rattle.images.proofs.ReadingLaws.{highest, none_above}
use Rattle.checker.specs.Nodes.{AreIndirect, HasNodes, IsAmong, IsAny, MarksFile, MarksFor, MarksThese}
use Rattle.checker.specs.declared.error.CheckEnd.{CheckEnd}
use Rattle.checker.specs.declared.error.CheckEnd.TheVariants as halts
use Rattle.checker.specs.declared.nodes.Shared.{Shared}
use Rattle.checker.proofs.NodeLaws.{hole_under, looks_none}
use Rattle.checker.proofs.NodeSteps.{looks_same}

-- as many nodes by the size of a file as by its blocks
nodes_same : (layout : Layout) (size m : ℕ) → nodes_of_size layout size m ≡ nodes_at layout (div_ceil size 4096) m
unfolding nodes_at nodes_of_size
nodes_same layout size zero = refl
nodes_same layout size (suc m) = ap (λ (n : ℕ). div_ceil n (fan_out layout)) (nodes_same layout size m)

-- what an inode with pointers has
pub with_pointers : (s : Sizes) (f : Inode) (pointers : List Pointer) → IsInode s f → f.body ≡ Pointers pointers → FitsPointers f.layout pointers s.blocks f.size
with_pointers s f pointers fits body = subst (λ (b : Body). FitsBody f.layout b s.blocks f.size) body fits.body

pub top_level : (layout : Layout) (size height : ℕ) → 128 < size → height ≡ level_of layout size - 1 → level_of layout size ≡ suc height
top_level layout size height some is = omega (arith, is, level_some layout size some)

-- one without has no level
pub inline_level : (s : Sizes) (f : Inode) (bytes : List ℕ) → IsInode s f → f.body ≡ Inline bytes → level_of f.layout f.size ≡ 0
inline_level s f bytes fits body =
    let inside : FitsBody f.layout (Inline bytes) s.blocks f.size = subst (λ (b : Body). FitsBody f.layout b s.blocks f.size) body fits.body in
    level_none f.layout f.size inside.0

module _ (d : Blocks) (f : Inode) (s : Sizes) (blocks count : ℕ) (same : s.blocks ≡ blocks) (all : count ≡ div_ceil f.size 4096) where
  few : (m i : ℕ) → nodes_of_size f.layout f.size m - fan_out f.layout * i ≡ nodes_at f.layout count m - fan_out f.layout * i
  few m i =
      ap (λ (n : ℕ). n - fan_out f.layout * i) (nodes_same f.layout f.size m)
      ∙ ap (λ (n : ℕ). nodes_at f.layout n m - fan_out f.layout * i) (sym all)

  -- what a file's grammar says of its indirect blocks, and that this is all of it
  pub indirect_of : (S : ℕ → ℕ → Type 0) → IsFileGrammar s (held d f) → AreIndirect f.layout blocks d (held d f) count S
  indirect_of S grammar m i b here is =
      let own : IsIndirectBlock f.layout s.blocks (nodes_of_size f.layout f.size m - fan_out f.layout * i) ((held d f).bytes (suc m) i) =
      subst (λ (x : Inode). IsIndirectBlock x.layout s.blocks (nodes_of_size x.layout x.size m - fan_out x.layout * i) ((held d f).bytes (suc m) i)) (held_inode d f) (grammar.indirect m i b is) in
      let sized : IsIndirectBlock f.layout s.blocks (nodes_at f.layout count m - fan_out f.layout * i) ((held d f).bytes (suc m) i) =
      subst (λ (n : ℕ). IsIndirectBlock f.layout s.blocks n ((held d f).bytes (suc m) i)) (few m i) own in
      subst (λ (n : ℕ). IsIndirectBlock f.layout n (nodes_at f.layout count m - fan_out f.layout * i) (d b)) same
      (subst (IsIndirectBlock f.layout s.blocks (nodes_at f.layout count m - fan_out f.layout * i)) (node_bytes d f (suc m) i b is) sized)

  pub grammar_of : IsInode s f → AreIndirect f.layout blocks d (held d f) count IsAny → IsFileGrammar s (held d f)
  grammar_of fits are = record {
    inode = subst (IsInode s) (sym (held_inode d f)) fits;
    indirect = λ m i b is.
        let sized : IsIndirectBlock f.layout s.blocks (nodes_at f.layout count m - fan_out f.layout * i) (d b) =
        subst (λ (n : ℕ). IsIndirectBlock f.layout n (nodes_at f.layout count m - fan_out f.layout * i) (d b)) (sym same) (are m i b tt is) in
        let own : IsIndirectBlock f.layout s.blocks (nodes_of_size f.layout f.size m - fan_out f.layout * i) ((held d f).bytes (suc m) i) =
        subst (λ (n : ℕ). IsIndirectBlock f.layout s.blocks n ((held d f).bytes (suc m) i)) (sym (few m i))
        (subst (IsIndirectBlock f.layout s.blocks (nodes_at f.layout count m - fan_out f.layout * i)) (sym (node_bytes d f (suc m) i b is)) sized) in
        subst (λ (x : Inode). IsIndirectBlock x.layout s.blocks (nodes_of_size x.layout x.size m - fan_out x.layout * i) ((held d f).bytes (suc m) i)) (sym (held_inode d f)) own;
    bytes = tt;
  }

  -- an inode with no node
  pub none_marked : level_of f.layout f.size ≡ 0 → (number bits : ℕ) (marks : List ℕ) (shared : List (Option Shared))
      → MarksFor (held d f) IsAny number bits marks marks shared shared × AreIndirect f.layout blocks d (held d f) count IsAny
  none_marked level number bits marks shared = (
    (λ k bit. looks_none (held d f) IsAny k number marks shared (λ m i b here is. no_block ((held d f).place m i) b (none_above d f m i (omega (arith, level))) is)),
    (λ m i b here is. absurd (no_block ((held d f).place (suc m) i) b (none_above d f (suc m) i (omega (arith, level))) is)),
  )

  -- a fault in an indirect block is one of the file
  file_err : (S : ℕ → ℕ → Type 0) (number bits : ℕ) (o n p q : List ℕ) (b a x y : List (Option Shared)) (e : CheckEnd)
      → MarksThese f.layout blocks d (held d f) S number count bits o n b a (Err e) → MarksFile d s f number bits p q x y (Err e)
  file_err S number bits o n p q b a x y halts.NoMemory marked = tt
  file_err S number bits o n p q b a x y halts.Device marked = tt
  file_err S number bits o n p q b a x y (halts.Fault fault) marked = ((λ grammar. marked.0 (indirect_of S grammar)), marked.1, marked.2)

  pub file_passed : (S : ℕ → ℕ → Type 0) (now number bits : ℕ) (o n p q : List ℕ) (b a x y : List (Option Shared)) (result : Result (Unit {0}) CheckEnd) (e : CheckEnd)
      → now ≡ blocks → IsErrAnd result (λ f. f ≡ e)
      → MarksThese f.layout now d (held d f) S number count bits o n b a (Err e) → MarksFile d s f number bits p q x y result
  file_passed S now number bits o n p q b a x y (Ok done) e there is marked = absurd is
  file_passed S now number bits o n p q b a x y (Err g) e there is marked =
      file_err S number bits o n p q b a x y g
      (subst (λ (z : CheckEnd). MarksThese f.layout blocks d (held d f) S number count bits o n b a (Err z)) (sym is)
      (subst (λ (z : ℕ). MarksThese f.layout z d (held d f) S number count bits o n b a (Err e)) there marked))

  -- the highest nodes are those of the inode's pointers
  module _ (height : ℕ) (pointers : List Pointer) (level : level_of f.layout f.size ≡ suc height) (body : f.body ≡ Pointers pointers) where
    pub held_nodes : HasNodes f.layout d (held d f) height
    held_nodes m i lt = held_up d f m i (omega (arith, level, lt))

    pub held_top : (i : ℕ) → (held d f).place height i ≡ get_or pointers i Hole
    held_top i = highest d f height i level ∙ ap (λ b. get_or (pointers_of b) i Hole) body

    among_all : (m i b : ℕ) → (held d f).place m i ≡ Block b → IsAmong f.layout height 0 (length pointers) m i
    among_all m i b is = elim (cases_lt m (level_of f.layout f.size)) [
      | inr above ↦ absurd (no_block ((held d f).place m i) b (none_above d f m i above) is)
      | inl lt ↦ elim (cases_lt (i / fan_out f.layout ^ (height - m)) (length pointers)) [
        | inl before ↦ (omega (arith, lt, level), omega arith, before)
        | inr past ↦ absurd (no_block ((held d f).place m i) b
            (hole_under f.layout d (held d f) height held_nodes (height - m) m i (omega (arith, lt, level)) (held_top (i / fan_out f.layout ^ (height - m)) ∙ get_or_past pointers (i / fan_out f.layout ^ (height - m)) Hole past)) is)
      ]
    ]

    pub all_marked : (number bits : ℕ) (old new : List ℕ) (before after : List (Option Shared))
        → MarksFor (held d f) (IsAmong f.layout height 0 (length pointers)) number bits old new before after × AreIndirect f.layout blocks d (held d f) count (IsAmong f.layout height 0 (length pointers))
        → MarksFor (held d f) IsAny number bits old new before after × AreIndirect f.layout blocks d (held d f) count IsAny
    all_marked number bits old new before after both = (
      (λ k bit. looks_same (held d f) (IsAmong f.layout height 0 (length pointers)) IsAny k number old new before after (λ m i b here is. among_all m i b is) (λ m i among. tt) (both.0 k bit)),
      (λ m i b here is. both.1 m i b (among_all (suc m) i b is) is),
    )
