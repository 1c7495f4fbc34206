-- One number's file, over its settled inode.
use Rattle.std.proofs.Common.{◌≡◌, ◌⊎◌, inl, inr, ℕ, suc, ◌-◌, ◌/◌, ◌%◌, ◌<◌, ◌≤◌, Bool, true, false, List, refl, ap, sym, subst, ◌∙◌, arith}
use Rattle.std.proofs.lemmas.Bool.{cond-false}
use Rattle.std.proofs.lemmas.Bool.Decides.{nat_tests}
use Rattle.std.specs.Prelude.{nat_lt, slice_index, if◌then◌else◌, Option, Some, None}
use Rattle.layout.specs.Bytes.{zeros}
use Rattle.layout.specs.Inode.{FitsBody, FitsKind, IsInode}
use Rattle.layout.specs.Limits.{Sizes}
use Rattle.layout.specs.Places.{Blocks}
use Rattle.layout.specs.Trees.{has_attributes, level_of}
use Rattle.layout.specs.declared.inode.Body.{Body}
use Rattle.layout.specs.declared.inode.Body.TheVariants.{Inline, Pointers}
use Rattle.layout.specs.declared.inode.Inode.{Inode}
use Rattle.layout.specs.declared.kind.Kind.{Kind}
use Rattle.layout.specs.declared.kind.Kind.TheVariants as kinds
use Rattle.layout.specs.declared.trees.Layout.{Layout}
use Rattle.layout.specs.declared.pointer.Pointer.{Pointer}
use Rattle.blocktree.specs.Places.{block_count}
use Rattle.blocktree.specs.Trees.{SameSettled}
use Rattle.blocktree.specs.declared.tree.BlockTree.{BlockTree}
use Rattle.blockmap.specs.Maps.{IsFree}
use Rattle.blockmap.specs.Parts.{Part}
use Rattle.conspoint.specs.declared.draft.Draft.{Draft}
use Rattle.images.specs.Contents.{Content, content_of}
use Rattle.images.specs.Nodes.{Agrees, held, Names, file_block}
use Rattle.images.specs.Roots.{free_inode}
use Rattle.images.specs.Soundness.{IsSoundFile, IsOrdinary}
use Rattle.inode.specs.Bases.{IsBased, HasPointers, StartsFrom}
use Rattle.inode.specs.Bases.IsBased.{anew, over}
use Rattle.inode.specs.Files.{file_block as object_file_block}
use Rattle.inode.specs.declared.object.Object.{Object}
use Rattle.inofile.specs.Inodes.{files_of, content_at, or_free_content}
use Rattle.inofile.specs.Objects.{IsObject, IsObjectKind}
use Rattle.inofile.specs.Settled.{content_of_object as memory_content}
use Rattle.inofile.specs.declared.inode_file.InodeFile.{InodeFile}
use Rattle.model.specs.Attributes.{FitAttributes, no_attributes}
use Rattle.model.specs.Volumes.{Node}
use Rattle.model.proofs.AttributeLaws.{new_fit}
use Rattle.placement.specs.Files.{IsBasedOn, IsPlaced, IsChangeOf, object_content}
use Rattle.planning.specs.Numbers.{IsCleared, IsNumberPlaced, IsObjectOver, IsSettledFile, trimmed}
use Rattle.placement.specs.Files.IsBasedOn.{settled, none}
use Rattle.images.proofs.EmptyLaws.{none_named, free_sound, held_inode}
use Rattle.inode.proofs.BaseLaws.{based_layout}
use Rattle.layout.proofs.SizeLaws.{level_none}
use Rattle.layout.proofs.ZeroLaws.{zero_byte}

level_up : (layout : Layout) (size : ℕ) → 128 < size → level_of layout size ≡ suc (level_of layout size - 1)
level_up layout size lt = grind (arith, nat_tests)

pub body_fits : (s : Sizes) (d : Blocks) (f : Inode) → IsSoundFile s (held d f) → FitsBody f.layout f.body s.blocks f.size
body_fits s d f sound = (subst (IsInode s) (held_inode d f) sound.inode).body

over_pointers : (s : Sizes) (f : Inode) (t : BlockTree) (pointers : List Pointer) → FitsBody f.layout f.body s.blocks f.size → f.body ≡ Pointers pointers → HasPointers f.layout pointers f.size t → IsBasedOn f t
over_pointers s f t pointers fits body has =
    let large : 128 < f.size = (subst (λ b. FitsBody f.layout b s.blocks f.size) body fits).0 in
    settled has.layout_is (body ∙ ap Pointers (sym has.pointers_are)) (level_up f.layout f.size large ∙ ap suc (sym has.depth)) has.count

-- a tree that has settled blocks lies over them, and one over an inode that names none over none
pub based_over : (s : Sizes) (d : Blocks) (f : Inode) (t : BlockTree) → IsSoundFile s (held d f) → IsBased f t → (0 < t.count) ⊎ (level_of f.layout f.size ≡ 0) → IsBasedOn f t
based_over s d f t sound (anew of empty) (inl some) = absurd (omega arith)
based_over s d f t sound (anew of empty) (inr small) = none of small empty
based_over s d f t sound (over pointers body has) all = over_pointers s f t pointers (body_fits s d f sound) body has

-- one that has none may lie over a free inode
pub based_free : (layout : Layout) (t : BlockTree) → t.layout ≡ layout → t.count ≡ 0 → IsBasedOn (free_inode layout) t
based_free layout t of is = none of refl is

started : (s : Sizes) (f : Inode) (from t : BlockTree) (body : Body) → f.body ≡ body → FitsBody f.layout f.body s.blocks f.size → StartsFrom f.layout body f.size from → SameSettled from t → IsBasedOn f t
started s f from t (Inline bytes) is fits starts same =
    let small : f.size ≤ 128 = (subst (λ b. FitsBody f.layout b s.blocks f.size) is fits).0 in
    none (same.layout ∙ starts.0) (level_none f.layout f.size small) (same.count ∙ starts.1)
started s f from t (Pointers pointers) is fits starts same =
    over_pointers s f t pointers fits is (record { layout_is = same.layout ∙ starts.0.layout_is; pointers_are = same.pointers ∙ starts.0.pointers_are; depth = same.depth ∙ starts.0.depth; count = same.count ∙ starts.0.count })

-- the tree of a settled file lies over it, whatever is cut off
pub based_start : (s : Sizes) (d : Blocks) (f : Inode) (from t : BlockTree) → IsSoundFile s (held d f) → StartsFrom f.layout f.body f.size from → SameSettled from t → IsBasedOn f t
based_start s d f from t sound starts same = started s f from t f.body refl (body_fits s d f sound) starts same

-- contents are the same where all that they say is
pub same_content : (a b : Content) → a.kind ≡ b.kind → a.attributes ≡ b.attributes → a.links ≡ b.links → a.size ≡ b.size → ((i : ℕ) → a.block i ≡ b.block i) → a ≡ b
same_content a b kind attributes links size block = λ i. record { kind = kind i; attributes = attributes i; links = links i; size = size i; block = λ n. block n i }

-- What is placed anew, with no settled block kept, where all blocks of the settled file are left.
pub placed_anew : (s : Sizes) (d e : Blocks) (f new left : Inode) (taken came freed gone : ℕ → Bool) → ((b : ℕ) → taken b ≡ true → Names (held d f) b → ⊥)
    → IsPlaced s e (held d (free_inode s.layout)) new taken gone → IsPlaced s e (held d f) left came freed → ((b : ℕ) → Names (held e left) b → ⊥) → IsPlaced s e (held d f) new taken freed
placed_anew s d e f new left taken came freed gone apart placed cleared nothing = record {
  moves = λ m i b is. inr (from_taken b (record { height = m; index = i; is = is }));
  named = placed.named;
  stays = λ b names. inr (elim (cleared.stays b names) [ inl still ↦ absurd (nothing b still) | inr is ↦ is ]);
  freed_are = λ b is. ((cleared.freed_are b is).0, λ names. apart b (from_taken b names) (cleared.freed_are b is).0);
  once = placed.once;
  sound = placed.sound;
}
  where
    from_taken : (b : ℕ) → Names (held e new) b → taken b ≡ true
    from_taken b names = elim (placed.moves names.height names.index b names.is) [
      | inl was ↦ absurd (none_named d (free_inode s.layout) refl b (record { height = names.height; index = names.index; is = was }))
      | inr is ↦ is
    ]

-- ---- zeros

-- past the end of a file of no bytes
past_end : (size i : ℕ) (bytes : List ℕ) → size ≡ 0 → (if nat_lt i (block_count size) then bytes else zeros 4096) ≡ zeros 4096
past_end size i bytes is =
    let no : nat_lt i (block_count size) ≡ false = ap (λ n. nat_lt i (block_count n)) is ∙ (let none : nat_lt i 0 ≡ false = grind (arith, nat_tests) in none) in
    cond-false (nat_lt i (block_count size)) bytes (zeros 4096) no

pub cut_off : (i : ℕ) (bytes : List ℕ) → (if nat_lt i (block_count 0) then bytes else zeros 4096) ≡ zeros 4096
cut_off i bytes = past_end 0 i bytes refl

-- ---- what is planned of an object

module _ (s : Sizes) (draft : Draft) (d : Blocks) (f : Inode) (o : Object) (file : IsSettledFile s draft d f) where
  -- with all settled blocks left
  module _ (from : BlockTree) (starts : StartsFrom f.layout f.body f.size from) (same : SameSettled from o.file.tree)
      (kind : o.status.kind ≡ kinds.Free) (attributes : o.status.attributes ≡ no_attributes) (links : o.status.links ≡ 0) (size : o.file.size ≡ 0) (none : (i : ℕ) → object_file_block d o.file i ≡ zeros 4096) where
    pub cleared_change : IsChangeOf s draft d f o
    cleared_change = record {
      blocks = file.blocks;
      based = based_start s d f from o.file.tree file.sound starts same;
      sound = file.sound;
      once = file.once;
      used = file.used;
      ends = λ p le. ap (λ (b : List ℕ). slice_index b (p % 4096)) (none (p / 4096)) ∙ zero_byte (p % 4096) 4096;
      attributes = subst (FitAttributes (has_attributes s.layout)) (sym attributes) (new_fit (has_attributes s.layout) 0 (omega arith));
      kind = subst (λ k. FitsKind k s o.status.attributes o.status.links o.file.size) (sym kind) (attributes, links, size);
    }

    pub is_cleared : (e : Blocks) (new : Inode) (taken freed : ℕ → Bool) → IsPlaced s e (held d f) new taken freed → content_of (held e new) ≡ object_content d o
        → IsCleared s e (held d f) new taken freed
    is_cleared e new taken freed placed content = record {
      placed = placed;
      none = none_named e new (ap (λ n. level_of new.layout n) (ap (λ i. i.size) (sym (held_inode e new)) ∙ (ap (λ c. c.size) content ∙ size)));
      kind = ap (λ i. i.kind) (sym (held_inode e new)) ∙ (ap (λ c. c.kind) content ∙ kind);
      content = λ x. content ∙ same_content (object_content d o) (trimmed (content_of (held x (free_inode s.layout))))
          (kind ∙ ap (λ i. i.kind) (sym (held_inode x (free_inode s.layout)))) (attributes ∙ ap (λ i. i.attributes) (sym (held_inode x (free_inode s.layout))))
          (links ∙ ap (λ i. i.links) (sym (held_inode x (free_inode s.layout)))) (size ∙ ap (λ i. i.size) (sym (held_inode x (free_inode s.layout))))
          (λ i. past_end o.file.size i (object_file_block d o.file i) size
          ∙ sym (past_end (held x (free_inode s.layout)).inode.size i (file_block (held x (free_inode s.layout)) i) (ap (λ i. i.size) (held_inode x (free_inode s.layout)))));
    }

  -- over its settled blocks
  pub change_over : IsObjectOver s d f o → (0 < o.file.tree.count) ⊎ (level_of f.layout f.size ≡ 0) → IsChangeOf s draft d f o
  change_over object all = record {
    blocks = file.blocks;
    based = based_over s d f o.file.tree file.sound object.based all;
    sound = file.sound;
    once = file.once;
    used = file.used;
    ends = object.ends;
    attributes = subst (λ l. FitAttributes (has_attributes l) o.status.attributes) (subst (IsInode s) (held_inode d f) file.sound.inode).layout object.attributes;
    kind = object.kind;
  }

  -- made anew
  pub change_anew : IsObjectOver s d f o → o.file.tree.count ≡ 0 → IsChangeOf s draft d (free_inode s.layout) o
  change_anew object is = record {
    blocks = file.blocks;
    based = based_free s.layout o.file.tree (based_layout f o.file.tree object.based ∙ (subst (IsInode s) (held_inode d f) file.sound.inode).layout) is;
    sound = free_sound s d;
    once = λ m i k j b here there. absurd (none_named d (free_inode s.layout) refl b (record { height = m; index = i; is = here }));
    used = λ b names free. none_named d (free_inode s.layout) refl b names;
    ends = object.ends;
    attributes = subst (λ l. FitAttributes (has_attributes l) o.status.attributes) (subst (IsInode s) (held_inode d f) file.sound.inode).layout object.attributes;
    kind = object.kind;
  }

-- a settled file under a draft with the same entries
pub settled_later : (s : Sizes) (old new : Draft) (d : Blocks) (f : Inode) → IsSettledFile s old d f → new.map.parts.items ≡ old.map.parts.items → new.map.count ≡ old.map.count → IsSettledFile s new d f
settled_later s old new d f file parts count = record {
  blocks = file.blocks ∙ sym count;
  sound = file.sound;
  once = file.once;
  used = λ b names free. file.used b names (subst (λ (ps : List Part). IsFree ps b) parts free);
}

pub ordinary_kind : (k : Kind) → IsObjectKind k → IsOrdinary k
ordinary_kind kinds.Free is = absurd is
ordinary_kind kinds.File is = tt
ordinary_kind kinds.Directory is = tt
ordinary_kind kinds.Link is = tt
ordinary_kind kinds.InodeFile is = absurd is
ordinary_kind kinds.InodeMap is = absurd is
ordinary_kind kinds.BlockMap is = absurd is

-- what an object of memory is, over its settled inode
pub object_over : (s : Sizes) (inodes : ℕ) (d : Blocks) (f g : Inode) (o : Object) (found : Option Node) → f ≡ g → IsObject d inodes g o found → IsObjectOver s d f o
object_over s inodes d f g o found now object =
    record {
      based = subst (λ (x : Inode). IsBased x o.file.tree) (sym now) object.base;
      ends = object.ends;
      attributes = subst (λ (x : Inode). FitAttributes (has_attributes x.layout) o.status.attributes) (sym now) object.attributes;
      kind = object.fits s;
    }

-- an object that was placed is the number's file
pub object_placed : (s : Sizes) (d e : Blocks) (settled_of : ℕ → Inode) (inodes : InodeFile) (n : ℕ) (f new : Inode) (o : Object) (taken freed : ℕ → Bool) → f ≡ settled_of n
    → IsObjectKind o.status.kind → content_at d settled_of inodes n ≡ Some (memory_content d o)
    → IsPlaced s e (held d f) new taken freed → content_of (held e new) ≡ object_content d o → IsNumberPlaced s e (held d (settled_of n)) (trimmed (files_of d settled_of inodes n)) new taken freed
object_placed s d e settled_of inodes n f new o taken freed now kind is placed content = record {
  placed = subst (λ (x : Inode). IsPlaced s e (held d x) new taken freed) now placed;
  kind = subst IsOrdinary (sym (ap (λ i. i.kind) (sym (held_inode e new)) ∙ ap (λ (c : Content). c.kind) content)) (ordinary_kind o.status.kind kind);
  content = content ∙ sym (ap (λ (x : Option Content). trimmed (or_free_content inodes.geometry.layout d x)) is);
}

-- and one that was cleared is, where there is none
pub none_placed : (s : Sizes) (d e : Blocks) (settled_of : ℕ → Inode) (inodes : InodeFile) (n : ℕ) (f new : Inode) (taken freed : ℕ → Bool) → s ≡ inodes.geometry → f ≡ settled_of n → content_at d settled_of inodes n ≡ None
    → IsCleared s e (held d f) new taken freed → IsNumberPlaced s e (held d (settled_of n)) (trimmed (files_of d settled_of inodes n)) new taken freed
none_placed s d e settled_of inodes n f new taken freed same now is cleared = record {
  placed = subst (λ (x : Inode). IsPlaced s e (held d x) new taken freed) now cleared.placed;
  kind = subst IsOrdinary (sym cleared.kind) tt;
  content = cleared.content d ∙ ap (λ (z : Sizes). trimmed (content_of (held d (free_inode z.layout)))) same
      ∙ sym (ap (λ (x : Option Content). trimmed (or_free_content inodes.geometry.layout d x)) is);
}

-- what two inodes that are the same name
pub agrees_now : (d e : Blocks) (f g : Inode) → f ≡ g → Agrees (Names (held d g)) d e → Agrees (Names (held d f)) d e
agrees_now d e f g now same = subst (λ (x : Inode). Agrees (Names (held d x)) d e) (sym now) same
