-- What the definitions say of a call on a descriptor, by what is open there.
use Rattle.std.proofs.Common.{◌≡◌, ◌==◌, inl, inr, ℕ, true, Option, Some, None, refl, sym, ap, subst, ◌∙◌}
use Rattle.std.proofs.lemmas.Bool.{cases_eq, cond-true, cond-false, eq-eqb, ne_eqb}
use Rattle.std.specs.Option.{option_map}
use Rattle.model.specs.Descriptors.{with_offset}
use Rattle.model.specs.Outcomes.{Outcome, described, refuses, tested}
use Rattle.model.specs.Paths.{Tests, first_refusal}
use Rattle.model.specs.Room.{Need, nothing}
use Rattle.model.specs.Trees.{Tree, Description}
use Rattle.model.specs.Volumes.{Volume, is_file_node, tree_of}
use Rattle.model.specs.declared.errno.Errno.{Errno}
use Rattle.model.specs.declared.errno.Errno.TheVariants.{EBADF}
use Rattle.model.specs.declared.reply.Reply.{Reply}
use Rattle.model.specs.declared.reply.Reply.TheVariants.{Refused}
use Rattle.model.proofs.OptionLaws.{some_same}
use Rattle.paths.specs.Numbers.{IsInodeNumber}
use Rattle.records.specs.Opened.{HasNumbers}
use Rattle.descriptors.specs.Files.{description_of, figures_of}
use Rattle.descriptors.specs.Fits.{IsFileOf}
use Rattle.descriptors.specs.Tables.{open_at, put_open, table_of}
use Rattle.descriptors.specs.declared.open_file.OpenFile.{OpenFile}
use Rattle.descriptors.specs.declared.table.Descriptors.{Descriptors}
use Rattle.files.specs.Opened.{tree_with}
use Rattle.descriptors.proofs.FitLemmas.{figured_file}

module _ (table : Descriptors) (v : Volume) (fd : ℕ) (rest : Description → Outcome) where
  abbrev t : Tree
  t = tree_with table v

  abbrev cases : Option Description → Outcome
  cases o = elim o as (λ _. Outcome) [ Some f ↦ rest f | None ↦ refuses t EBADF ]

  pub not_open : open_at table fd ≡ None → described t fd rest (Refused EBADF) t nothing
  not_open none = subst (λ (o : Option Description). cases o (Refused EBADF) t nothing) (sym (ap (option_map description_of) none)) (refl, refl, refl)

  pub is_open : (f : OpenFile) (reply : Reply) (new : Tree) (need : Need) → open_at table fd ≡ Some f → rest (description_of f) reply new need
      → described t fd rest reply new need
  is_open f reply new need some is = subst (λ (o : Option Description). cases o reply new need) (sym (ap (option_map description_of) some)) is

-- what is said of the file of a number is said of an open file
pub at_file : {n : ℕ} (v : Volume) (f : OpenFile) (P : ℕ → Type 0) → n ≡ f.number → IsFileOf v f → (is_file_node (v n) ≡ true → P n) → P f.number
at_file v f P same fits says = subst (λ (k : ℕ). is_file_node (v k) ≡ true → P k) same says (figured_file (v f.number) (figures_of f) fits)

-- ---- tests

pub refused_by : (t : Tree) (tests : Tests) (rest : Outcome) (errno : Errno) → first_refusal tests ≡ Some errno → tested t tests rest (Refused errno) t nothing
refused_by t tests rest errno is =
    subst (λ (o : Option Errno). (elim o as (λ _. Outcome) [ Some e ↦ refuses t e | None ↦ rest ]) (Refused errno) t nothing) (sym is) (refl, refl, refl)

pub passes : (t : Tree) (tests : Tests) (rest : Outcome) (reply : Reply) (new : Tree) (need : Need) → first_refusal tests ≡ None → rest reply new need → tested t tests rest reply new need
passes t tests rest reply new need is done =
    subst (λ (o : Option Errno). (elim o as (λ _. Outcome) [ Some e ↦ refuses t e | None ↦ rest ]) reply new need) (sym is) done

-- ---- what becomes of the table

-- a moved offset is that of the descriptor in the tree
pub moved_tree : (old new : Descriptors) (v : Volume) (fd place : ℕ) (f : OpenFile)
    → table_of new ≡ put_open fd (Some (record (description_of f) { offset = place })) (table_of old)
    → tree_with new v ≡ with_offset fd (description_of f) place (tree_with old v)
moved_tree old new v fd place f is = ap (tree_of v) is

-- and changes no number
pub moved_numbers : (inodes : ℕ) (old new : Descriptors) (fd place : ℕ) (f : OpenFile) → open_at old fd ≡ Some f
    → ((d : ℕ) → open_at new d ≡ put_open fd (Some (record f { offset = place })) (open_at old) d) → HasNumbers inodes old → HasNumbers inodes new
moved_numbers inodes old new fd place f some files has = record {
  numbers = λ d g e.
      elim (cases_eq d fd) [
        | inl same ↦
            let is : Some (record f { offset = place }) ≡ Some g = sym (cond-true (d == fd) _ _ (eq-eqb d fd same)) ∙ sym (files d) ∙ e in
            subst (λ (k : OpenFile). IsInodeNumber inodes k.number) (some_same is) (has.numbers fd f some)
        | inr other ↦ has.numbers d g (sym (cond-false (d == fd) _ _ (ne_eqb d fd other)) ∙ sym (files d) ∙ e)
      ];
}
