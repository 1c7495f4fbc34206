-- Grammars are exact: what is read is said by the bytes, and what they say is read.
use Rattle.std.proofs.Common.{◌≡◌, ℕ, Bool, true, false, List, [], ◌++◌, length, Some, refl, sym, ap, subst, ◌∙◌, append_assoc}
use Rattle.layout.specs.Bytes.{IsBytes}
use Rattle.layout.specs.Format.{Format}
use Rattle.layout.specs.Reading.{◌>>=◌, part_at, all_of}
use Rattle.layout.proofs.Formats.{IsExact, Takes, Takes-then, bind_some, some_is, part_exact, whole_takes, made_again}
use Rattle.fuse.specs.Grammar.{Grammar, nothing, counting, counting_at, saying, saying_first, choose}

pub nothing_exact : IsExact nothing
nothing_exact = record {
  takes = λ bytes x fits e. (subst (λ (y : Unit {0} × List ℕ). Takes bytes [] y.1) (some_is (tt, bytes) x e) (record { parts = refl; rest_fits = fits }), tt);
  again = λ v rest fits. refl;
}

pub counting_exact : {A : Type 0} {f : Format A} → IsExact f → (count : A → ℕ) → IsExact (counting f count)
counting_exact {A} {f} exact count = record {
  takes = λ bytes x fits e.
      let a = bind_some (f.at bytes) (λ y. part_at (count y.0) y.1 >>= λ z. Some ((y.0, z.0), z.1)) x e in
      let b = bind_some (part_at (count a.0.0) a.0.1) (λ z. Some ((a.0.0, z.0), z.1)) x a.2 in
      let one = exact.takes bytes a.0 fits a.1 in
      let two = (part_exact (count a.0.0)).takes a.0.1 b.0 one.0.rest_fits b.1 in
      let both = Takes-then bytes (f.text a.0.0) a.0.1 b.0.0 b.0.1 one.0 two.0 in
      subst (λ (y : (A × List ℕ) × List ℕ). Takes bytes (f.text y.0.0 ++ y.0.1) y.1 × (f.Fits y.0.0 × (length y.0.1 ≡ count y.0.0))) (some_is ((a.0.0, b.0.0), b.0.1) x b.2) (both, (one.1, two.1));
  again = λ v rest fits.
      let regrouped : (f.text v.0 ++ v.1) ++ rest ≡ f.text v.0 ++ (v.1 ++ rest) = append_assoc (f.text v.0) v.1 rest in
      ap (counting_at f.at count) regrouped ∙ rw (exact.again v.0 (v.1 ++ rest) fits.0, (part_exact (count v.0)).again v.1 rest fits.1) refl;
}

-- a grammar reads exactly what the bytes say
pub record IsExactGrammar {A : Type 0} (g : Grammar A) : Type 0 where
  pub says : (bytes : List ℕ) (x : A) → IsBytes bytes → g.read bytes ≡ Some x → g.Says bytes x
  pub again : (bytes : List ℕ) (x : A) → g.Says bytes x → g.read bytes ≡ Some x

pub saying_exact : {F A : Type 0} {f : Format F} → IsExact f → (meaning : F → A) → IsExactGrammar (saying f meaning)
saying_exact {F} {A} {f} exact meaning = record {
  says = λ bytes x fits e.
      let w = bind_some (all_of f.at bytes) (λ v. Some (meaning v)) x e in
      let t = whole_takes exact bytes w.0 fits w.1 in
      record { fields = w.0; fit = t.1; bytes_are = t.0; said_is = sym (some_is (meaning w.0) x w.2) };
  again = λ bytes x s.
      ap (λ (b : List ℕ). all_of f.at b >>= λ v. Some (meaning v)) s.bytes_are
      ∙ made_again exact meaning s.fields s.fit ∙ ap (λ (a : A). Some a) (sym s.said_is);
}

pub saying_first_exact : {F A : Type 0} {f : Format F} → IsExact f → (meaning : F → A) → IsExactGrammar (saying_first f meaning)
saying_first_exact {F} {A} {f} exact meaning = record {
  says = λ bytes x fits e.
      let w = bind_some (f.at bytes) (λ y. Some (meaning y.0)) x e in
      let t = exact.takes bytes w.0 fits w.1 in
      record { fields = w.0.0; rest = w.0.1; fit = t.1; bytes_are = t.0.parts; said_is = sym (some_is (meaning w.0.0) x w.2) };
  again = λ bytes x s.
      ap (λ (b : List ℕ). f.at b >>= λ y. Some (meaning y.0)) s.bytes_are
      ∙ rw (exact.again s.fields s.rest s.fit) (ap (λ (a : A). Some a) (sym s.said_is));
}

pub choose_exact : {A : Type 0} {g h : Grammar A} (b : Bool) → IsExactGrammar g → IsExactGrammar h → IsExactGrammar (choose b g h)
choose_exact true first second = first
choose_exact false first second = second
