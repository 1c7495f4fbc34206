-- A volume whose orphans are dropped, number after number.
use Rattle.std.proofs.Common.{◌≡◌, inl, inr, ℕ, List, zero, suc, true≢false, ◌+◌, ◌<◌, ◌≤◌, Bool, true, false, refl, sym, ap, subst, ◌∙◌, arith, add-one}
use Rattle.std.specs.Prelude.{Option, Some, None, nat_eq, IsSome, IsTrue, nat_lt, if◌then◌else◌, ◌==◌}
use Rattle.std.specs.Int.{from_bool}
use Rattle.std.proofs.Math.Dec.{eqb-suc-zero}
use Rattle.std.proofs.Math.Path.{fun_ext}
use Rattle.std.proofs.lemmas.Bool.{cases_lt, cases_eq, cond_below, cond_above}
use Rattle.std.proofs.lemmas.Bool.Decides.{nat_tests}
use Rattle.model.specs.declared.attributes.Attributes.{Attributes}
use Rattle.model.specs.Records.{count_orphans, without_orphans}
use Rattle.model.specs.Volumes.{Node, directory_node, file_node, link_node, Volume, is_directory_node, is_file_node, is_orphan, swept_node, with_node}
use Rattle.records.specs.Preparing.{HasGraph}
use Rattle.inofile.specs.Settled.{held_content}
use Rattle.inofile.specs.Volumes.{HasNoOwn}
use Rattle.images.specs.Nodes.{held}
use Rattle.images.specs.Sizes.{StandsForIn}
use Rattle.images.specs.Soundness.{Detail}
use Rattle.layout.specs.declared.inode.Inode.{Inode}
use Rattle.layout.specs.declared.kind.Kind.TheVariants as kinds
use Rattle.records.proofs.KindLaws.{not_file, sized_file}

-- the orphans below a number are dropped
abbrev pub dropped_below : ℕ → Volume → Volume
dropped_below m v n = if nat_lt n m then swept_node false (v n) else v n

-- ---- one object

directory_stays : (o : Option Node) → IsTrue (is_directory_node o) → swept_node false o ≡ o
directory_stays None is = cc
directory_stays (Some (directory_node attributes names)) is = refl
directory_stays (Some (link_node attributes text)) is = cc
directory_stays (Some (file_node attributes links bytes)) is = cc

-- none, where nothing can be
none_where : (o : Option Node) → (IsSome o → ⊥) → swept_node false o ≡ o
none_where None empty = refl
none_where (Some x) empty = absurd (empty refl)

-- ---- one number

put_there : (m k : ℕ) (o p : Option Node) → k ≡ m → (if k == m then o else p) ≡ o
put_there m k o p same = grind (arith, nat_tests)

put_elsewhere : (m k : ℕ) (o p : Option Node) → (k ≡ m → ⊥) → (if k == m then o else p) ≡ p
put_elsewhere m k o p other = grind (arith, nat_tests)

-- ---- number after number

at_it : (m : ℕ) (v : Volume) → dropped_below m v m ≡ v m
at_it m v = sym (cond_above m m (swept_node false (v m)) (v m) (v m) (omega arith) refl)

below : (m k : ℕ) (v : Volume) → k < m → dropped_below m v k ≡ swept_node false (v k)
below m k v lt = sym (cond_below k m (swept_node false (v k)) (v k) lt)

past : (m k : ℕ) (v : Volume) → m ≤ k → dropped_below m v k ≡ v k
past m k v le = sym (cond_above k m (swept_node false (v k)) (v k) (v k) le refl)

pub one_more : (m : ℕ) (v : Volume) → with_node m (swept_node false (dropped_below m v m)) (dropped_below m v) ≡ dropped_below (m + 1) v
one_more m v = fun_ext {f = with_node m (swept_node false (dropped_below m v m)) (dropped_below m v)} {g = dropped_below (m + 1) v} (λ k. elim (cases_eq k m) [
  | inl same ↦ put_there m k (swept_node false (dropped_below m v m)) (dropped_below m v k) same
      ∙ ap (swept_node false) (at_it m v ∙ ap v (sym same)) ∙ sym (below (m + 1) k v (omega arith))
  | inr other ↦ put_elsewhere m k (swept_node false (dropped_below m v m)) (dropped_below m v k) other ∙ elim (cases_lt k m) [
    | inl lt ↦ below m k v lt ∙ sym (below (m + 1) k v (omega arith))
    | inr ge ↦ past m k v ge ∙ sym (past (m + 1) k v (omega (arith, other)))
  ]
])

-- none is dropped of the numbers before the first that an object may have
pub starts : (inodes : ℕ) (v : Volume) → HasGraph inodes v → HasNoOwn v → v ≡ dropped_below 4 v
starts inodes v is own = fun_ext {f = v} {g = dropped_below 4 v} (λ k. elim (cases_lt k 4) [
  | inl low ↦ elim (cases_eq k 3) [
    | inl root ↦ sym (directory_stays (v k) (subst (λ n. IsTrue (is_directory_node (v n))) (sym root) is.graph.naming.root)) ∙ sym (below 4 k v low)
    | inr other ↦
        let none : v k ≡ None = own k (omega (arith, other)) in
        none ∙ sym (ap (swept_node false) none) ∙ sym (below 4 k v low)
  ]
  | inr high ↦ sym (past 4 k v high)
])

-- behind the last number there are none
pub ends : (inodes : ℕ) (v : Volume) → HasGraph inodes v → 4 ≤ inodes → dropped_below inodes v ≡ without_orphans v
ends inodes v is many = fun_ext {f = dropped_below inodes v} {g = without_orphans v} (λ k. elim (cases_lt k inodes) [
  | inl low ↦ below inodes k v low
  | inr high ↦ past inodes k v high ∙ sym (none_where (v k) (λ some. elim (is.numbers k some) [
    | inl root ↦ absurd (omega arith)
    | inr within ↦ absurd (omega (arith, within.1))
  ]))
])

-- ---- how many there are

directory_named : (o : Option Node) → IsTrue (is_directory_node o) → is_orphan o ≡ false
directory_named None is = refl
directory_named (Some (directory_node attributes names)) is = refl
directory_named (Some (link_node attributes text)) is = refl
directory_named (Some (file_node attributes links bytes)) is = cc

none_here : (n : ℕ) (v : Volume) → is_orphan (v n) ≡ false → count_orphans (suc n) v ≡ count_orphans n v
none_here n v is = let here = ap (λ (b : Bool). count_orphans n v + (if b then 1 else 0)) is in here ∙ omega arith

-- the numbers before the first that an object may have are none
pub none_counted : (inodes : ℕ) (v : Volume) → HasGraph inodes v → HasNoOwn v → 0 ≡ count_orphans 4 v
none_counted inodes v is own = sym (
    none_here 3 v (directory_named (v 3) is.graph.naming.root) ∙ none_here 2 v (ap is_orphan (own 2 (omega arith)))
    ∙ none_here 1 v (ap is_orphan (own 1 (omega arith))) ∙ none_here 0 v (ap is_orphan (own 0 (omega arith)))
    )

of_bool : (b : Bool) → from_bool b ≡ (if b then 1 else 0)
of_bool true = refl
of_bool false = refl

pub one_at_most : (b : Bool) → from_bool b ≤ 1
one_at_most true = omega arith
one_at_most false = omega arith

pub one_counted : (m count k : ℕ) (v : Volume) (one : Bool) → count ≡ count_orphans m v → one ≡ is_orphan (v m) → k ≡ from_bool one → count + k ≡ count_orphans (m + 1) v
one_counted m count k v one so_far is here =
    ap (λ (n : ℕ). n + k) so_far ∙ ap (λ (n : ℕ). count_orphans m v + n) (here ∙ of_bool one ∙ ap (λ (b : Bool). if b then 1 else 0) is)
    ∙ ap (λ (n : ℕ). count_orphans n v) (sym (add-one m))

-- ---- what a settled inode tells

orphan_links : (attributes : Attributes) (links : ℕ) (bytes : List ℕ) → nat_eq links 0 ≡ is_orphan (Some (file_node attributes links bytes))
orphan_links attributes zero bytes = refl
orphan_links attributes (suc links) bytes = eqb-suc-zero links

other_named : (o : Option Node) → is_file_node o ≡ false → false ≡ is_orphan o
other_named None is = refl
other_named (Some (directory_node attributes names)) is = refl
other_named (Some (link_node attributes text)) is = refl
other_named (Some (file_node attributes links bytes)) is = absurd (true≢false is)

pub file_named : (detail : Detail) (disk : ℕ → List ℕ) (inodes : ℕ) (i : Inode) (found : Option Node) → i.kind ≡ kinds.File → StandsForIn detail inodes (held_content disk i) found → nat_eq i.links 0 ≡ is_orphan found
unfolding held
file_named detail disk inodes i found is stands =
    let file = sized_file detail i.kind inodes (held_content disk i) found stands is in
    orphan_links i.attributes i.links file.0 ∙ sym (ap is_orphan file.2)

pub none_named : (detail : Detail) (disk : ℕ → List ℕ) (inodes : ℕ) (i : Inode) (found : Option Node) → (i.kind ≡ kinds.File → ⊥) → StandsForIn detail inodes (held_content disk i) found → false ≡ is_orphan found
unfolding held
none_named detail disk inodes i found other stands = other_named found (not_file detail i.kind inodes (held_content disk i) found stands other)
