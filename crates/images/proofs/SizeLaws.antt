-- Volumes of a tree where the bytes of files aren't known: there is one, and all have the same names.
use Rattle.std.proofs.Common.{◌≡◌, ℕ, zero, suc, ◌-◌, ◌*◌, ◌/◌, ◌<◌, ◌≤◌, ◌^◌, ◌↔◌, inl, inr, List, [], length, take, slice_index, Option, Some, None, is_some, IsSome, ◌==◌, if◌then◌else◌, refl, ap, sym, subst, ◌∙◌, arith}
use Rattle.std.proofs.Math.Path.{fun_ext}
use Rattle.std.proofs.lemmas.Bool.{cases_lt, cases_eq, eq-eqb, ne_eqb}
use Rattle.std.proofs.lemmas.List.{get_or_past, length-append, length-take}
use Rattle.std.proofs.lemmas.List.FromFn.{get_or-map-range_with_len}
use Rattle.layout.specs.Bytes.{zeros}
use Rattle.layout.specs.FileBytes.{byte_in, first_bytes}
use Rattle.layout.specs.Inode.{FitsBody}
use Rattle.layout.specs.Limits.{Sizes}
use Rattle.layout.specs.Places.{Blocks, pointed}
use Rattle.layout.specs.declared.inode.Body.{Body}
use Rattle.layout.specs.declared.inode.Body.TheVariants.{Inline, Pointers}
use Rattle.layout.specs.declared.inode.Inode.{Inode}
use Rattle.layout.specs.declared.kind.Kind.{Kind}
use Rattle.layout.specs.declared.kind.Kind.TheVariants as kinds
use Rattle.layout.specs.declared.pointer.Pointer.{Pointer}
use Rattle.layout.specs.declared.pointer.Pointer.TheVariants.{Hole, Block}
use Rattle.layout.specs.declared.root.Root.{Root}
use Rattle.layout.proofs.PartLaws.{length-first_bytes}
use Rattle.layout.proofs.ZeroLaws.{length-zeros}
use Rattle.model.specs.declared.attributes.Attributes.{Attributes}
use Rattle.model.specs.Paths.{IsName, Name, Path}
use Rattle.model.specs.Volumes.{Entries, HasNames, IsGraph, Node, Volume, directory_node, entries, file_node, is_directory_node, is_file_node, link_node, names_in, number_at}
use Rattle.images.specs.Contents.{Content, HoldsVolume, StandsAs, content_bytes, content_of, tree_contents}
use Rattle.images.specs.Faults.{IsFaultless}
use Rattle.images.specs.Nodes.{body_block, file_block, held}
use Rattle.images.specs.Roots.{HeldTree, inode_under, tree, whole}
use Rattle.images.specs.Sizes.{HoldsVolumeIn, IsSizedAs, TellsBlocks}
use Rattle.images.specs.Soundness.{Detail, IsHeldFile, IsSoundFile, by_sizes}
use Rattle.images.proofs.LowLaws.{length-low, low, low_byte, low_bytes, low_node}
use Rattle.images.proofs.ReadingLaws.{hole_behind, inline_first, inline_others}
use Rattle.images.proofs.VolumeLaws.{stands_once}

-- ---- blocks

module _ {detail : Detail} (s : Sizes) (d : Blocks) (f : Inode) (sound : IsHeldFile detail s (held d f)) where
  inline_whole : (bytes : List ℕ) → f.body ≡ Inline bytes → (i : ℕ) → length (file_block (held d f) i) ≡ 4096
  unfolding held
  inline_whole bytes body zero =
      let fits = subst (λ (b : Body). FitsBody f.layout b s.blocks f.size) body sound.inode.body in
      ap length (inline_first s d f bytes sound.inode body)
      ∙ omega (arith, length-append (take f.size bytes) (zeros (4096 - f.size)), length-take f.size bytes, length-zeros (4096 - f.size), fits.0, fits.1)
  inline_whole bytes body (suc i) = ap length (inline_others d f bytes (suc i) body (omega arith)) ∙ length-zeros 4096

  -- a block can be read where what is stored of it can be
  pub block_whole : (i : ℕ) → ((b : ℕ) → (held d f).place 0 i ≡ Block b → length ((held d f).bytes 0 i) ≡ 4096) → length (file_block (held d f) i) ≡ 4096
  unfolding held
  block_whole i stored = by f.body refl
    where
      led : (p : Pointer) → (held d f).place 0 i ≡ p → length ((held d f).bytes 0 i) ≡ 4096
      led Hole is = ap (λ q. length (pointed d q)) is ∙ length-zeros 4096
      led (Block b) is = stored b is

      by : (body : Body) → f.body ≡ body → length (file_block (held d f) i) ≡ 4096
      by (Inline bytes) body = inline_whole bytes body i
      by (Pointers pointers) body = ap (λ b. length (body_block b ((held d f).bytes 0 i) i)) body ∙ led ((held d f).place 0 i) refl

  -- and past the end
  pub past_whole : (i : ℕ) → f.size ≤ 4096 * i → length (file_block (held d f) i) ≡ 4096
  unfolding held
  past_whole i past = by f.body refl
    where
      by : (body : Body) → f.body ≡ body → length (file_block (held d f) i) ≡ 4096
      by (Inline bytes) body = inline_whole bytes body i
      by (Pointers pointers) body = block_whole i (λ b is. let none = hole_behind s d f pointers sound body i (omega (arith, past)) in absurd (let both : Hole ≡ Block b = sym none ∙ is in cc))

-- ---- a volume by sizes

-- the bytes of a file that tell its blocks
abbrev mark : (ℕ → List ℕ) → ℕ → ℕ
mark block p = if length (block (p / 4096)) == 4096 then 0 else 256

abbrev marks : (ℕ → List ℕ) → ℕ → List ℕ
marks block size = first_bytes (mark block) size

told : (n m : ℕ) → m ≡ (if n == 4096 then 0 else 256) → (m < 256) ↔ (n ≡ 4096)
told n m is = elim (cases_eq n 4096) [
  | inl whole ↦ let low : m ≡ 0 = is ∙ rw (eq-eqb n 4096 whole) refl in ((λ _. whole), (λ _. omega (arith, low)))
  | inr part ↦ let high : m ≡ 256 = is ∙ rw (ne_eqb n 4096 part) refl in ((λ lt. absurd (omega (arith, high, lt))), (λ whole. absurd (part whole)))
]

marks_tell : (block : ℕ → List ℕ) (size : ℕ) → ((i : ℕ) → size ≤ 4096 * i → length (block i) ≡ 4096) → TellsBlocks block (marks block size)
marks_tell block size past i = elim (cases_lt (4096 * i) size) [
  | inl within ↦
      let here : 4096 * i / 4096 ≡ i = omega arith in
      told (length (block i)) _ (get_or-map-range_with_len (mark block) 0 size (4096 * i) (4096 * i) 0 within (omega arith) ∙ ap (λ (k : ℕ). if length (block k) == 4096 then 0 else 256) here)
  | inr behind ↦
      let none : slice_index (marks block size) (4096 * i) ≡ 0 = get_or_past (marks block size) (4096 * i) 0 (omega (arith, behind, length-first_bytes (mark block) size)) in
      ((λ _. past i behind), (λ _. omega (arith, none)))
]

-- the objects of a tree, where a file has the marks of its blocks
sized_node : Kind → Content → Option Node → Option Node
sized_node kinds.Free c o = o
sized_node kinds.File c o = Some (file_node c.attributes c.links (marks c.block c.size))
sized_node kinds.Directory c o = o
sized_node kinds.Link c o = Some (link_node c.attributes (zeros c.size))
sized_node kinds.InodeFile c o = o
sized_node kinds.InodeMap c o = o
sized_node kinds.BlockMap c o = o

sized_is : (k : Kind) (inodes : ℕ) (c : Content) (o : Option Node) → ((i : ℕ) → c.size ≤ 4096 * i → length (c.block i) ≡ 4096)
    → (k ≡ kinds.Directory → (i : ℕ) → length (c.block i) ≡ 4096) → StandsAs k inodes c o → IsSizedAs k inodes c (sized_node k c o)
unfolding sized_node
sized_is kinds.Free inodes c o past read stands = stands
sized_is kinds.File inodes c o past read stands = (marks c.block c.size, length-first_bytes (mark c.block) c.size, marks_tell c.block c.size past, refl)
sized_is kinds.Directory inodes c o past read stands = (read refl, stands)
sized_is kinds.Link inodes c o past read stands = (zeros c.size, length-zeros c.size, refl)
sized_is kinds.InodeFile inodes c o past read stands = stands
sized_is kinds.InodeMap inodes c o past read stands = stands
sized_is kinds.BlockMap inodes c o past read stands = stands

-- the volume of the lowest bytes of a tree whose blocks can all be read
low_is : (k : Kind) (inodes : ℕ) (c : Content) (o : Option Node) → ((i : ℕ) → length (c.block i) ≡ 4096) → StandsAs k inodes c o → IsSizedAs k inodes c (low_node o)
low_is kinds.Free inodes c o whole stands = ap low_node stands
low_is kinds.File inodes c o whole stands = (
  low_bytes (content_bytes c),
  length-low (content_bytes c) ∙ length-first_bytes (byte_in c.block) c.size,
  (λ i. ((λ _. whole i), (λ _. low_byte (content_bytes c) (4096 * i)))),
  ap low_node stands,
)
low_is kinds.Directory inodes c o whole stands = (whole, (stands.0, stands.1, ap low_node stands.2))
low_is kinds.Link inodes c o whole stands = (content_bytes c, length-first_bytes (byte_in c.block) c.size, ap low_node stands)
low_is kinds.InodeFile inodes c o whole stands = ap low_node stands
low_is kinds.InodeMap inodes c o whole stands = ap low_node stands
low_is kinds.BlockMap inodes c o whole stands = ap low_node stands

module _ (d : Blocks) (r : Root) where
  abbrev t : HeldTree
  t = (whole d r).active

  abbrev f : ℕ → Inode
  f n = inode_under (held d r.inode_file) r.geometry.inodes n

  pub low_holds : (v : Volume) → ((n : ℕ) → IsSoundFile r.geometry (t n)) → HoldsVolume r.geometry.inodes (tree_contents t) v
      → HoldsVolumeIn by_sizes r.geometry.inodes (tree_contents t) (low v)
  unfolding tree whole
  low_holds v sound holds n =
      low_is (held d (f n)).inode.kind r.geometry.inodes (content_of (held d (f n))) (v n)
      (λ i. block_whole r.geometry d (f n) (sound n) i ((sound n).bytes.readable i)) (holds n)

  pub sized_holds : IsFaultless r.geometry t → (v : Volume) × HoldsVolumeIn by_sizes r.geometry.inodes (tree_contents t) v
  unfolding tree whole held inode_under
  sized_holds active = (
    (λ n. sized_node (t n).inode.kind (content_of (t n)) (active.names.names.volume n)),
    λ n. sized_is (held d (f n)).inode.kind r.geometry.inodes (content_of (held d (f n))) (active.names.names.volume n)
        (past_whole r.geometry d (f n) (active.grammar.files n))
        (λ is i. block_whole r.geometry d (f n) (active.grammar.files n) i (active.names.names.readable n is i)) (active.names.names.holds n),
  )

-- ---- the names

-- an object but for the bytes of a file and the text of a link
shape : Option Node → Option Node
shape None = None
shape (Some (directory_node attributes names)) = Some (directory_node attributes names)
shape (Some (file_node attributes links bytes)) = Some (file_node attributes links [])
shape (Some (link_node attributes text)) = Some (link_node attributes [])

shaped : {X : Type 0} (test : Option Node → X) → ((attributes : Attributes) (links : ℕ) (a b : List ℕ) → test (Some (file_node attributes links a)) ≡ test (Some (file_node attributes links b)))
    → ((attributes : Attributes) (a b : List ℕ) → test (Some (link_node attributes a)) ≡ test (Some (link_node attributes b))) → (o p : Option Node) → shape o ≡ shape p → test p ≡ test o
unfolding shape
shaped {X} test files links o p same = sym (of_shape p) ∙ ap test (sym same) ∙ of_shape o
  where
    of_shape : (o : Option Node) → test (shape o) ≡ test o
    of_shape None = refl
    of_shape (Some (directory_node attributes names)) = refl
    of_shape (Some (file_node attributes n bytes)) = files attributes n [] bytes
    of_shape (Some (link_node attributes text)) = links attributes [] text

file_shape : (o : Option Node) (attributes : Attributes) (links : ℕ) → shape o ≡ Some (file_node attributes links []) → (bytes : List ℕ) × (o ≡ Some (file_node attributes links bytes))
unfolding shape
file_shape None attributes links is = cc
file_shape (Some (directory_node m names)) attributes links is = cc
file_shape (Some (file_node m l bytes)) attributes links is =
    let first : m ≡ attributes = cc in
    let second : l ≡ links = cc in
    (bytes, λ i. Some (file_node (first i) (second i) bytes))
file_shape (Some (link_node a text)) attributes links is = cc

same_shape : (k : Kind) (inodes : ℕ) (c : Content) (o p : Option Node) → inodes ≤ 2 ^ 32 → StandsAs k inodes c o → IsSizedAs k inodes c p → shape o ≡ shape p
unfolding shape
same_shape kinds.Free inodes c o p limit one other = ap shape (one ∙ sym other)
same_shape kinds.File inodes c o p limit one other = ap shape one ∙ sym (ap shape other.3)
same_shape kinds.Directory inodes c o p limit one other = ap shape (stands_once kinds.Directory inodes c o p limit one other.1)
same_shape kinds.Link inodes c o p limit one other = ap shape one ∙ sym (ap shape other.2)
same_shape kinds.InodeFile inodes c o p limit one other = ap shape (one ∙ sym other)
same_shape kinds.InodeMap inodes c o p limit one other = ap shape (one ∙ sym other)
same_shape kinds.BlockMap inodes c o p limit one other = ap shape (one ∙ sym other)

module _ (inodes : ℕ) (files : ℕ → Content) (v w : Volume) (limit : inodes ≤ 2 ^ 32) (holds : HoldsVolume inodes files v) (sized : HoldsVolumeIn by_sizes inodes files w) where
  same : (n : ℕ) → shape (v n) ≡ shape (w n)
  same n = same_shape (files n).kind inodes (files n) (v n) (w n) limit (holds n) (sized n)

  same_entries : entries w ≡ entries v
  same_entries = fun_ext (λ n. fun_ext (λ x. shaped (λ o. names_in o x) (λ attributes links a b. refl) (λ attributes a b. refl) (v n) (w n) (same n)))

  pub same_some : (n : ℕ) → is_some (w n) ≡ is_some (v n)
  same_some n = shaped is_some (λ attributes links a b. refl) (λ attributes a b. refl) (v n) (w n) (same n)

  same_file : (n : ℕ) → is_file_node (w n) ≡ is_file_node (v n)
  same_file n = shaped is_file_node (λ attributes links a b. refl) (λ attributes a b. refl) (v n) (w n) (same n)

  by_entries : (P : Entries → Type 0) → P (entries v) → P (entries w)
  by_entries P = subst P (sym same_entries)

  was : (d n : ℕ) (x : Name) → entries w d x ≡ Some n → entries v d x ≡ Some n
  was d n x is = ap (λ (e : Entries). e d x) (sym same_entries) ∙ is

  pub sized_graph : IsGraph v → IsGraph w
  unfolding shape
  sized_graph g = record {
    naming = record {
      root = shaped is_directory_node (λ attributes links a b. refl) (λ attributes a b. refl) (v 3) (w 3) (same 3) ∙ g.naming.root;
      not_root = λ d x is. g.naming.not_root d x (was d 3 x is);
      used = λ d n x is. same_some n ∙ g.naming.used d n x (was d n x is);
      once = λ d k n x y e f not. g.naming.once d k n x y (was d n x e) (was k n y f) (sym (same_file n) ∙ not);
      names = λ d x. by_entries (λ e. IsSome (e d x) → IsName x) (g.naming.names d x);
      reached = λ n some not. by_entries (λ e. (p : Path) × (number_at e p ≡ Some n)) (g.naming.reached n (sym (same_some n) ∙ some) (sym (same_file n) ∙ not));
    };
    counts = λ n attributes links bytes is.
        let old = file_shape (v n) attributes links (same n ∙ ap shape is) in
        by_entries (λ e. HasNames e n links) (g.counts n attributes links old.0 old.1);
  }
