-- The inode map says which numbers are taken.
use Rattle.std.proofs.Common.{◌≡◌, ◌≢◌, ◌⊎◌, inl, inr, ℕ, ◌<◌, ◌≤◌, List, refl, ap, sym, subst, ◌∙◌, arith}
use Rattle.std.proofs.lemmas.Bool.{cases_lt}
use Rattle.std.specs.Prelude.{Option, None, IsSome}
use Rattle.layout.specs.Maps.{IsTaken}
use Rattle.layout.specs.declared.kind.Kind.{Kind}
use Rattle.layout.specs.declared.kind.Kind.TheVariants as kinds
use Rattle.model.specs.Volumes.{Node, Volume}
use Rattle.images.specs.Contents.{Content, StandsAs, content_bytes, content_of}
use Rattle.images.specs.Points.{HoldObjects}
use Rattle.images.specs.Roots.{HeldTree}
use Rattle.images.specs.Soundness.{IsOrdinary, MapsNumbers}
use Rattle.inofile.specs.Volumes.{MapsVolume}

-- what isn't free stands for an object
pub stands_some : (k : Kind) (inodes : ℕ) (c : Content) (o : Option Node) → IsOrdinary k → k ≢ kinds.Free → StandsAs k inodes c o → IsSome o
stands_some kinds.Free inodes c o ordinary other is = absurd (other refl)
stands_some kinds.File inodes c o ordinary other is = subst (λ x. IsSome x) (sym is) refl
stands_some kinds.Directory inodes c o ordinary other is = subst (λ x. IsSome x) (sym is.2) refl
stands_some kinds.Link inodes c o ordinary other is = subst (λ x. IsSome x) (sym is) refl
stands_some kinds.InodeFile inodes c o ordinary other is = absurd ordinary
stands_some kinds.InodeMap inodes c o ordinary other is = absurd ordinary
stands_some kinds.BlockMap inodes c o ordinary other is = absurd ordinary

pub stands_none : (k : Kind) (inodes : ℕ) (c : Content) (o : Option Node) → k ≡ kinds.Free → StandsAs k inodes c o → IsSome o → ⊥
stands_none k inodes c o free is some =
    let none : o ≡ None = subst (λ x. StandsAs x inodes c o) free is in let both : IsSome {T = Node} None = subst (λ x. IsSome x) none some in absurd (cc)

module _ (inodes : ℕ) (bytes : List ℕ) (t : HeldTree) (files : ℕ → Content) (v : Volume) (maps : MapsVolume bytes v) (same : content_bytes (content_of (t 1)) ≡ bytes) (holds : HoldObjects inodes files v)
    (content : (n : ℕ) → 3 ≤ n → content_of (t n) ≡ files n) (ordinary : (n : ℕ) → 3 ≤ n → IsOrdinary (t n).inode.kind) where
  kind_is : (n : ℕ) → 3 ≤ n → (t n).inode.kind ≡ (files n).kind
  kind_is n low = ap (λ c. c.kind) (content n low)

  taken_then : (n : ℕ) → IsTaken (content_bytes (content_of (t 1))) n → (n < 4) ⊎ ((t n).inode.kind ≢ kinds.Free)
  taken_then n is = elim (cases_lt n 4) [
    | inl low ↦ inl low
    | inr high ↦ elim ((maps n).0 (subst (λ bs. IsTaken bs n) same is)) [
      | inl low ↦ inl low
      | inr some ↦ inr (λ free. stands_none (files n).kind inodes (files n) (v n) (sym (kind_is n (omega arith)) ∙ free) (holds n (omega arith)) some)
    ]
  ]

  then_taken : (n : ℕ) → (n < 4) ⊎ ((t n).inode.kind ≢ kinds.Free) → IsTaken (content_bytes (content_of (t 1))) n
  then_taken n which = subst (λ bs. IsTaken bs n) (sym same) ((maps n).1 (elim (cases_lt n 4) [
    | inl low ↦ inl low
    | inr high ↦ elim which [
      | inl low ↦ inl low
      | inr other ↦ inr (stands_some (files n).kind inodes (files n) (v n) (subst IsOrdinary (kind_is n (omega arith)) (ordinary n (omega arith)))
          (λ free. other (kind_is n (omega arith) ∙ free)) (holds n (omega arith)))
    ]
  ]))

  pub numbers_mapped : MapsNumbers t
  numbers_mapped n = (taken_then n, then_taken n)
