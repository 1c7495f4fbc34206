-- The inode: what is read is spelled so, and what is spelled so is read.
use Rattle.std.proofs.Common.{eq-eqb, ◌≡◌, ℕ, ◌*◌, ◌^◌, ◌<◌, ◌≤◌, true, false, eqb, leb, List, ◌++◌, length, get_or, drop, Some, refl, sym, ap, subst, ◌∙◌, arith}
use Rattle.std.specs.Int.{div_ceil}
use Rattle.std.proofs.lemmas.Bool.Decides.{nat_tests}
use Rattle.std.proofs.lemmas.Bool.{eqb-true, le-leb, lt-leb}
use Rattle.std.proofs.lemmas.List.{length-append, length-drop, drop_at}
use Rattle.std.proofs.lemmas.List.Elements.{All-weaker}
use Rattle.model.specs.declared.attributes.Attributes.{Attributes}
use Rattle.layout.specs.Attributes.{attribute_fields, attributes_from, others_told}
use Rattle.layout.specs.Bytes.{zeros, IsBytes}
use Rattle.layout.specs.Limits.{Sizes, AreSizes}
use Rattle.layout.specs.Pointer.{PointsBelow, pointers_bytes, pointers_in}
use Rattle.layout.specs.Reading.{is_zero, all_of}
use Rattle.layout.specs.Trees.{greatest_size, level_of}
use Rattle.layout.specs.Inode.{kind_code, body_bytes, inode_head, inode_fields, inode_bytes, FitsKind, FitsBody, IsInode, IsSomeInode}
use Rattle.layout.specs.InodeReading.{kind_of, body_in, inode_of, inode_in, kind_and_links_in, likely_sizes}
use Rattle.layout.specs.declared.trees.Layout.{Layout}
use Rattle.layout.specs.declared.trees.Layout.TheVariants.{Plain, Summed}
use Rattle.layout.specs.declared.kind.Kind.{Kind}
use Rattle.layout.specs.declared.kind.Kind.TheVariants as kinds
use Rattle.layout.specs.declared.inode.Body.{Body}
use Rattle.layout.specs.declared.inode.Body.TheVariants.{Inline, Pointers}
use Rattle.layout.specs.declared.inode.Inode.{Inode}
use Rattle.layout.specs.declared.pointer.Pointer.{Pointer}
use Rattle.layout.specs.declared.pointer.Pointer.TheVariants.{Hole, Block}
use Rattle.layout.proofs.AttributeLaws.{attributes_again, attributes_exact, others_again, others_fit}
use Rattle.layout.proofs.NumberLaws.{length-little}
use Rattle.layout.proofs.Formats.{bind_some, some_is, if_then, tried, IsBytes-behind, zeros_are, is_zero-zeros, IsExact, num_exact, ranged_exact, part_exact, then_exact, whole_takes, whole_again}
use Rattle.layout.proofs.WordLaws.{pointers_spelled, pointers_again, length-pointers_bytes}
use Rattle.layout.proofs.ZeroLaws.{length-zeros}

points_wider : (few many : ℕ) → few ≤ many → (p : Pointer) → PointsBelow few p → PointsBelow many p
points_wider few many le Hole fits = tt
points_wider few many le (Block b) fits = (fits.0, omega (arith, fits.1))

body_wider : (layout : Layout) (few many : ℕ) → few ≤ many → (body : Body) (size : ℕ) → FitsBody layout body few size → FitsBody layout body many size
body_wider layout few many le (Inline bytes) size fits = fits
body_wider layout few many le (Pointers ps) size fits =
    (fits.0, fits.1, All-weaker (PointsBelow few) (PointsBelow many) (points_wider few many le) ps fits.2, fits.3)

-- what an image of some sizes has, one of the likely sizes has
record Likely (layout : Layout) (kind : Kind) (s : Sizes) (attributes : Attributes) (links size : ℕ) : Type 0 where
  are : AreSizes (likely_sizes layout kind size)
  kind_fits : FitsKind kind (likely_sizes layout kind size) attributes links size
  wider : s.blocks ≤ (likely_sizes layout kind size).blocks

any_sizes : (layout : Layout) (blocks inodes : ℕ) → 64 ≤ blocks → blocks ≤ 1048576 → 32 ≤ inodes → inodes ≤ 65536 → AreSizes (record { layout = layout; blocks = blocks; inodes = inodes; half = 131072 })
any_sizes layout blocks inodes a b c d = record { least_blocks = a; most_blocks = b; least_inodes = c; most_inodes = d; least_half = omega arith; most_half = omega arith }

greatest : (layout : Layout) → AreSizes (record { layout = layout; blocks = 1048576; inodes = 65536; half = 131072 })
greatest layout = any_sizes layout 1048576 65536 (omega arith) (omega arith) (omega arith) (omega arith)

likely : (layout : Layout) (kind : Kind) (s : Sizes) (attributes : Attributes) (links size : ℕ) → AreSizes s → FitsKind kind s attributes links size → Likely layout kind s attributes links size
likely layout kinds.Free s attributes links size are fits = record { are = greatest layout; kind_fits = fits; wider = are.most_blocks }
likely layout kinds.File s attributes links size are fits = record { are = greatest layout; kind_fits = fits; wider = are.most_blocks }
likely layout kinds.Directory s attributes links size are fits = record { are = greatest layout; kind_fits = fits; wider = are.most_blocks }
likely layout kinds.Link s attributes links size are fits = record { are = greatest layout; kind_fits = fits; wider = are.most_blocks }
likely layout kinds.InodeFile s attributes links size are fits =
    let is : size ≡ 4096 * div_ceil s.inodes 21 = fits.2 in
    record { are = any_sizes layout 1048576 _ (omega arith) (omega arith) (omega arith) (omega arith); kind_fits = (fits.0, fits.1, omega arith); wider = are.most_blocks }
likely layout kinds.InodeMap s attributes links size are fits =
    let is : size ≡ div_ceil s.inodes 8 = fits.2 in
    record { are = any_sizes layout 1048576 _ (omega arith) (omega arith) (omega arith) (omega arith); kind_fits = (fits.0, fits.1, omega arith); wider = are.most_blocks }
likely layout kinds.BlockMap s attributes links size are fits =
    let is : size ≡ 4 * s.blocks = fits.2 in
    record { are = any_sizes layout _ 65536 (omega arith) (omega arith) (omega arith) (omega arith); kind_fits = (fits.0, fits.1, omega arith); wider = omega arith }

pub likely_inode : (i : Inode) → IsSomeInode i → AreSizes (likely_sizes i.layout i.kind i.size) × IsInode (likely_sizes i.layout i.kind i.size) i
likely_inode i some =
    let l = likely i.layout i.kind some.sizes i.attributes i.links i.size some.are_sizes some.fits.kind in
    (l.are, record { layout = refl; attributes = some.fits.attributes; size = some.fits.size; kind = l.kind_fits; body = body_wider i.layout some.sizes.blocks (likely_sizes i.layout i.kind i.size).blocks l.wider i.body i.size some.fits.body })

-- ---- what is read is spelled so

head_exact : IsExact inode_head
head_exact = then_exact (num_exact 2) (then_exact (ranged_exact 2 0 4095 (omega arith)) (then_exact (num_exact 4) (then_exact (num_exact 8) (num_exact 1))))

inode_exact : IsExact inode_fields
inode_exact = then_exact head_exact (then_exact attributes_exact (part_exact 128))

kind_takes : (code : ℕ) (kind : Kind) → kind_of code ≡ Some kind → code ≡ kind_code kind
unfolding kind_of
kind_takes code kind e =
    tried (eqb code 0) _ _ kind e (λ is e. eqb-true _ _ is ∙ ap kind_code (some_is kinds.Free kind e)) (λ e.
    tried (eqb code 1) _ _ kind e (λ is e. eqb-true _ _ is ∙ ap kind_code (some_is kinds.File kind e)) (λ e.
    tried (eqb code 2) _ _ kind e (λ is e. eqb-true _ _ is ∙ ap kind_code (some_is kinds.Directory kind e)) (λ e.
    tried (eqb code 3) _ _ kind e (λ is e. eqb-true _ _ is ∙ ap kind_code (some_is kinds.Link kind e)) (λ e.
    tried (eqb code 4) _ _ kind e (λ is e. eqb-true _ _ is ∙ ap kind_code (some_is kinds.InodeFile kind e)) (λ e.
    tried (eqb code 5) _ _ kind e (λ is e. eqb-true _ _ is ∙ ap kind_code (some_is kinds.InodeMap kind e)) (λ e.
    tried (eqb code 6) _ _ kind e (λ is e. eqb-true _ _ is ∙ ap kind_code (some_is kinds.BlockMap kind e)) (λ e. absurd cc)))))))

body_takes : (size : ℕ) (bytes : List ℕ) (body : Body) → length bytes ≡ 128 → IsBytes bytes → body_in size bytes ≡ Some body → bytes ≡ body_bytes body
unfolding body_in
body_takes size bytes body len fits e =
    tried (leb size 128) _ _ body e (λ is e. ap body_bytes (some_is (Inline bytes) body e)) (λ e.
    let k = if_then (is_zero (drop 64 bytes)) (Some (Pointers (pointers_in 16 bytes))) body e in
    let behind : drop 64 bytes ≡ zeros 64 = zeros_are (drop 64 bytes) k.0 ∙ ap zeros (omega (arith, length-drop 64 bytes)) in
    pointers_spelled 16 bytes (omega arith) fits ∙ ap (λ (r : List ℕ). pointers_bytes (pointers_in 16 bytes) ++ r) behind
    ∙ ap body_bytes (some_is (Pointers (pointers_in 16 bytes)) body k.1))

pub inode_takes : (layout : Layout) (bytes : List ℕ) (i : Inode) → IsBytes bytes → inode_in layout bytes ≡ Some i → (bytes ≡ inode_bytes i) × (i.layout ≡ layout)
unfolding inode_in inode_of
inode_takes layout bytes i fits e =
    let w = bind_some (all_of inode_fields.at bytes) _ i e in
    let head = w.0.0 in
    let size = head.1.1.1.0 in
    let last = w.0.1.1 in
    let t = whole_takes inode_exact bytes w.0 fits w.1 in
    let all = subst (λ (r : List ℕ). (i : ℕ) → get_or r i 0 < 256) t.0 fits in
    let k = bind_some (kind_of head.0) _ i w.2 in
    let b = bind_some (body_in size last) _ i k.2 in
    let g = if_then (eqb head.1.1.1.1 (level_of layout size)) (Some (record { layout = layout; kind = k.0; attributes = attributes_from head.1.0 w.0.1.0; links = head.1.1.0; size = size; body = b.0 })) i b.2 in
    let code = kind_takes head.0 k.0 k.1 in
    let level : head.1.1.1.1 ≡ level_of layout size = eqb-true _ _ g.0 in
    let body = body_takes size last b.0 t.1.1.1 (IsBytes-behind (attribute_fields.text w.0.1.0) last (IsBytes-behind (inode_head.text head) (attribute_fields.text w.0.1.0 ++ last) all)) b.1 in
    let others = sym (others_again head.1.0 w.0.1.0 t.1.1.0) in
    let is = some_is _ i g.1 in
    (t.0 ∙ (λ j. inode_fields.text ((code j, (head.1.0, (head.1.1.0, (size, level j)))), (others j, body j))) ∙ ap inode_bytes is, ap (λ (x : Inode). x.layout) (sym is))

-- ---- what is spelled so is read

kind_again : (kind : Kind) → kind_of (kind_code kind) ≡ Some kind
unfolding kind_of
kind_again kinds.Free = refl
kind_again kinds.File = refl
kind_again kinds.Directory = refl
kind_again kinds.Link = refl
kind_again kinds.InodeFile = refl
kind_again kinds.InodeMap = refl
kind_again kinds.BlockMap = refl

kind_small : (kind : Kind) → kind_code kind < 7
kind_small kinds.Free = omega arith
kind_small kinds.File = omega arith
kind_small kinds.Directory = omega arith
kind_small kinds.Link = omega arith
kind_small kinds.InodeFile = omega arith
kind_small kinds.InodeMap = omega arith
kind_small kinds.BlockMap = omega arith

links_small : (kind : Kind) (s : Sizes) (attributes : Attributes) (links size : ℕ) → FitsKind kind s attributes links size → links ≤ 1000
links_small kinds.Free s attributes links size fits = omega (arith, fits.1)
links_small kinds.File s attributes links size fits = fits
links_small kinds.Directory s attributes links size fits = omega (arith, fits.0)
links_small kinds.Link s attributes links size fits = omega (arith, fits.1)
links_small kinds.InodeFile s attributes links size fits = omega (arith, fits.1)
links_small kinds.InodeMap s attributes links size fits = omega (arith, fits.1)
links_small kinds.BlockMap s attributes links size fits = omega (arith, fits.1)

level_small : (layout : Layout) (size : ℕ) → level_of layout size < 256
level_small layout size = grind (arith, nat_tests)

pub length-body : (layout : Layout) (body : Body) (blocks size : ℕ) → FitsBody layout body blocks size → length (body_bytes body) ≡ 128
length-body layout (Inline bytes) blocks size fits = fits.1
length-body layout (Pointers ps) blocks size fits =
    omega (arith, length-append (pointers_bytes ps) (zeros 64), length-pointers_bytes ps, length-zeros 64, fits.1)

body_again : (layout : Layout) (body : Body) (blocks size : ℕ) → blocks ≤ 1048576 → FitsBody layout body blocks size → body_in size (body_bytes body) ≡ Some body
unfolding body_in
body_again layout (Inline bytes) blocks size limit fits =
    let small : leb size 128 ≡ true = le-leb _ _ fits.0 in
    rw small refl
body_again layout (Pointers ps) blocks size limit fits =
    let large : leb size 128 ≡ false = lt-leb _ _ fits.0 in
    let behind : drop 64 (pointers_bytes ps ++ zeros 64) ≡ zeros 64 = drop_at (pointers_bytes ps) (zeros 64) 64 (omega (arith, length-pointers_bytes ps, fits.1)) in
    let same : pointers_in 16 (pointers_bytes ps ++ zeros 64) ≡ ps = pointers_again 16 blocks ps (zeros 64) fits.1 (omega arith) fits.2 in
    rw (large, behind, is_zero-zeros 64, same) refl

-- what stands in the head of an inode
abbrev head_of : Inode → ℕ × (ℕ × (ℕ × (ℕ × ℕ)))
head_of i = (kind_code i.kind, (i.attributes.mode, (i.links, (i.size, level_of i.layout i.size))))

greatest_most : (layout : Layout) → greatest_size layout ≤ 8796093022208
greatest_most Plain = omega arith
greatest_most Summed = omega arith

head_fits : (s : Sizes) (i : Inode) → IsInode s i → inode_head.Fits (head_of i)
head_fits s i fits =
    let code : kind_code i.kind < 256 ^ 2 = omega (arith, kind_small i.kind) in
    let links : i.links < 256 ^ 4 = omega (arith, links_small i.kind s i.attributes i.links i.size fits.kind) in
    let size : i.size < 256 ^ 8 = omega (arith, fits.size, greatest_most i.layout) in
    (code, ((omega arith, fits.attributes.limits.mode), (links, (size, level_small i.layout i.size))))

pub head_again : (s : Sizes) (i : Inode) → IsInode s i → kind_and_links_in (inode_bytes i) ≡ Some (i.kind, i.links)
unfolding kind_and_links_in
head_again s i fits = rw (head_exact.again (head_of i) (attribute_fields.text (others_told i.attributes) ++ body_bytes i.body) (head_fits s i fits), kind_again i.kind) refl

pub inode_again : (i : Inode) → IsSomeInode i → inode_in i.layout (inode_bytes i) ≡ Some i
unfolding inode_in inode_of
inode_again i some =
    let fits = some.fits in
    let same : eqb (level_of i.layout i.size) (level_of i.layout i.size) ≡ true = eq-eqb (level_of i.layout i.size) (level_of i.layout i.size) refl in
    let read = whole_again inode_exact (head_of i, (others_told i.attributes, body_bytes i.body)) (head_fits some.sizes i fits, (others_fit i.attributes fits.attributes.limits, length-body i.layout i.body some.sizes.blocks i.size fits.body)) in
    rw (read, attributes_again i.attributes fits.attributes.limits, kind_again i.kind, body_again i.layout i.body some.sizes.blocks i.size some.are_sizes.most_blocks fits.body, same) refl

-- the same where the layout is told
pub inode_read : (layout : Layout) (i : Inode) → IsSomeInode i → i.layout ≡ layout → inode_in layout (inode_bytes i) ≡ Some i
inode_read layout i some of = subst (λ (l : Layout). inode_in l (inode_bytes i) ≡ Some i) of (inode_again i some)

pub length-inode : (i : Inode) (s : Sizes) → IsInode s i → length (inode_bytes i) ≡ 192
length-inode i s is =
    let body = length-body i.layout i.body s.blocks i.size is.body in
    simp (length-append, length-little, length-zeros) (omega arith)
