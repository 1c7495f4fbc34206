-- Files hold one volume at most.
use Rattle.std.proofs.Common.{◌≡◌, ◌⊎◌, inl, inr, ℕ, zero, suc, ◌<◌, ◌≤◌, ◌^◌, List, [], Option, Some, None, refl, ap, sym, subst, ◌∙◌, arith}
use Rattle.std.proofs.Math.Path.{fun_ext}
use Rattle.std.proofs.lemmas.Bool.{cases_lt, cases_eq}
use Rattle.layout.specs.Directory.{Named}
use Rattle.layout.specs.DirectoryNames.{NameMap, number_of, AreNames, HoldNames}
use Rattle.layout.specs.declared.kind.Kind.{Kind}
use Rattle.layout.specs.declared.kind.Kind.TheVariants as kinds
use Rattle.layout.proofs.EntryLaws.{entries_once}
use Rattle.model.specs.Paths.{Name}
use Rattle.model.specs.Volumes.{Node, directory_node, Volume}
use Rattle.images.specs.Contents.{Content, StandsAs, HoldsVolume}

-- a name stands in one of the first so many rows, or in none of them
record StandsIn (name : Name) (entries : ℕ → List Named) : Type 0 where
  row : ℕ
  number : ℕ
  is : number_of name (entries row) ≡ Some number

is_option : (o : Option ℕ) → ((n : ℕ) × (o ≡ Some n)) ⊎ (o ≡ None)
is_option None = inr refl
is_option (Some n) = inl (n, refl)

look : (name : Name) (entries : ℕ → List Named) (count : ℕ) → StandsIn name entries ⊎ ((i : ℕ) → i < count → number_of name (entries i) ≡ None)
look name entries zero = inr (λ i lt. absurd (omega arith))
look name entries (suc count) = elim (look name entries count) [
  | inl there ↦ inl there
  | inr none ↦ elim (is_option (number_of name (entries count))) [
    | inl some ↦ inl (record { row = count; number = some.0; is = some.1 })
    | inr last ↦ inr (λ i lt. elim (cases_eq i count) [
      | inl is ↦ ap (λ k. number_of name (entries k)) is ∙ last
      | inr other ↦ none i (omega arith)
    ])
  ]
]

-- rows of entries give one map of names
map_once : (entries : ℕ → List Named) (count : ℕ) (names others : NameMap) → ((i : ℕ) → count ≤ i → entries i ≡ []) → AreNames entries names → AreNames entries others → names ≡ others
map_once entries count names others past one other = fun_ext (λ name. elim (look name entries count) [
  | inl there ↦ one.found there.row name there.number there.is ∙ sym (other.found there.row name there.number there.is)
  | inr none ↦
      let nowhere : (i : ℕ) → number_of name (entries i) ≡ None = λ i. elim (cases_lt i count) [
        | inl lt ↦ none i lt
        | inr ge ↦ ap (number_of name) (past i ge)
      ] in one.only name nowhere ∙ sym (other.only name nowhere)
])

names_once : (inodes count : ℕ) (block : ℕ → List ℕ) (names others : NameMap) → inodes ≤ 2 ^ 32 → HoldNames inodes count block names → HoldNames inodes count block others → names ≡ others
names_once inodes count block names others limit one other =
    let same : other.entries ≡ one.entries = fun_ext (λ i. elim (cases_lt i count) [
      | inl lt ↦ entries_once inodes (block i) (other.entries i) (one.entries i) limit (other.holds i lt) (one.holds i lt)
      | inr ge ↦ other.past i ge ∙ sym (one.past i ge)
    ]) in
    map_once one.entries count names others one.past one.are (subst (λ (es : ℕ → List Named). AreNames es others) same other.are)

-- a content stands for one object at most
pub stands_once : (kind : Kind) (inodes : ℕ) (c : Content) (o p : Option Node) → inodes ≤ 2 ^ 32 → StandsAs kind inodes c o → StandsAs kind inodes c p → o ≡ p
stands_once kinds.Free inodes c o p limit one other = one ∙ sym other
stands_once kinds.File inodes c o p limit one other = one ∙ sym other
stands_once kinds.Directory inodes c o p limit one other =
    one.2 ∙ ap (λ (names : NameMap). Some (directory_node c.attributes names)) (names_once inodes _ c.block one.0 other.0 limit one.1 other.1) ∙ sym other.2
stands_once kinds.Link inodes c o p limit one other = one ∙ sym other
stands_once kinds.InodeFile inodes c o p limit one other = one ∙ sym other
stands_once kinds.InodeMap inodes c o p limit one other = one ∙ sym other
stands_once kinds.BlockMap inodes c o p limit one other = one ∙ sym other

pub volume_once : (inodes : ℕ) (files : ℕ → Content) (v w : Volume) → inodes ≤ 2 ^ 32 → HoldsVolume inodes files v → HoldsVolume inodes files w → v ≡ w
volume_once inodes files v w limit one other = fun_ext (λ n. stands_once (files n).kind inodes (files n) (v n) (w n) limit (one n) (other n))
