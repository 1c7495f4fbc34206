-- What a volume keeps, and the trees that the records' changes give.
use Rattle.std.proofs.Common.{◌≡◌, ◌⊎◌, inl, inr, ℕ, zero, suc, ◌≤◌, [], ◌∷◌, ◌++◌, length, true, false, Option, Some, None, IsSome, refl, sym, ap, ◌∙◌, length-append, arith}
use Rattle.model.specs.Paths.{Name, Path}
use Rattle.model.specs.Volumes.{Node, directory_node, file_node, link_node, Volume, Entries, names_in, entries, enter, number_at, is_file_node, is_directory_node, IsGraph}
use Rattle.model.proofs.WalkLemmas.{number_at-push}

-- a path is empty or has a last name
pub ends : (p : Path) → (p ≡ []) ⊎ ((u : Path) × (x : Name) × (p ≡ u ++ x ∷ []))
ends [] = inl refl
ends (x ∷ p) = elim (ends p) [ inl e ↦ inr ([], x, ap (λ q. x ∷ q) e) | inr more ↦ inr (x ∷ more.0, more.1, ap (λ q. x ∷ q) more.2) ]

-- where a name leads somewhere, it is a directory's
pub enters_directory : (o : Option Node) (x : Name) (n : ℕ) → names_in o x ≡ Some n → is_directory_node o ≡ true
enters_directory None x n e = cc
enters_directory (Some (directory_node attributes names)) x n e = refl
enters_directory (Some (file_node attributes links bytes)) x n e = cc
enters_directory (Some (link_node attributes text)) x n e = cc

pub directory_no_file : (o : Option Node) → is_directory_node o ≡ true → is_file_node o ≡ false
directory_no_file None e = refl
directory_no_file (Some (directory_node attributes names)) e = refl
directory_no_file (Some (file_node attributes links bytes)) e = cc
directory_no_file (Some (link_node attributes text)) e = refl

pub directory_some : (o : Option Node) → is_directory_node o ≡ true → IsSome o
directory_some None e = cc
directory_some (Some o) e = refl

pub entered : (e : Entries) (o : Option ℕ) (x : Name) (n : ℕ) → enter e o x ≡ Some n → (d : ℕ) × (o ≡ Some d) × (e d x ≡ Some n)
entered e None x n is = cc
entered e (Some d) x n is = (d, refl, is)

-- the last step of a walk
pub last_step : (e : Entries) (u : Path) (x : Name) (n : ℕ) → number_at e (u ++ x ∷ []) ≡ Some n → (d : ℕ) × (number_at e u ≡ Some d) × (e d x ≡ Some n)
last_step e u x n is = entered e (number_at e u) x n (sym (number_at-push e u x) ∙ is)

module _ (v : Volume) (volume : IsGraph v) where
  abbrev Alone : Path → Path → ℕ → Type 0
  Alone p q n = number_at (entries v) p ≡ Some n → number_at (entries v) q ≡ Some n → is_file_node (v n) ≡ false → p ≡ q

  alone_step : (p q : Path) (n : ℕ) → ((u w : Path) (d : ℕ) → suc (length u) ≤ length p → Alone u w d) → Alone p q n
  alone_step p q n rec at_p at_q no_file =
      elim (ends p) [
        | inl ep ↦ elim (ends q) [
          | inl eq ↦ ep ∙ sym eq
          | inr (w, y, eq) ↦
              let last = last_step (entries v) w y n (ap (number_at (entries v)) (sym eq) ∙ at_q) in
              let three : Some 3 ≡ Some n = ap (number_at (entries v)) (sym ep) ∙ at_p in
              absurd (volume.naming.not_root last.0 y (last.2 ∙ sym three))
        ]
        | inr (u, x, ep) ↦
            let here = last_step (entries v) u x n (ap (number_at (entries v)) (sym ep) ∙ at_p) in
            elim (ends q) [
              | inl eq ↦ let three : Some 3 ≡ Some n = ap (number_at (entries v)) (sym eq) ∙ at_q in absurd (volume.naming.not_root here.0 x (here.2 ∙ sym three))
              | inr (w, y, eq) ↦
                  let there = last_step (entries v) w y n (ap (number_at (entries v)) (sym eq) ∙ at_q) in
                  let same = volume.naming.once here.0 there.0 n x y here.2 there.2 no_file in
                  let longer : length p ≡ length (u ++ x ∷ []) = ap length ep in
                  let smaller : suc (length u) ≤ length p = omega (arith, length-append u (x ∷ []), longer) in
                  let rest : u ≡ w = rec u w here.0 smaller here.1 (there.1 ∙ ap (λ m. Some m) (sym same.0)) (directory_no_file (v here.0) (enters_directory (v here.0) x n here.2)) in
                  let last : x ≡ y = same.1 in
                  ep ∙ ap (λ r. r ++ x ∷ []) rest ∙ ap (λ z. w ++ z ∷ []) last ∙ sym eq
            ]
      ]

  alone_in : (bound : ℕ) (p q : Path) (n : ℕ) → length p ≤ bound → Alone p q n
  alone_in zero p q n short = alone_step p q n (λ u w d smaller. absurd (omega (arith, short, smaller)))
  alone_in (suc bound) p q n short = alone_step p q n (λ u w d smaller. alone_in bound u w d (omega (arith, short, smaller)))

  -- an object that isn't a file stands at one path
  pub alone : (p q : Path) (n : ℕ) → Alone p q n
  alone p q n = alone_in (length p) p q n (omega arith)
