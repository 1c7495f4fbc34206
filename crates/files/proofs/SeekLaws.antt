-- What the definitions say of a move of an offset.
use Rattle.std.proofs.Common.{◌≡◌, ◌+ℤ◌, pos, ℕ, ℤ, nat_abs, Some, Ok, refl, sym, ap, ◌∙◌}
use Rattle.model.specs.Descriptors.{base_of, seeks, with_offset}
use Rattle.model.specs.Outcomes.{Outcome, changes, tested}
use Rattle.model.specs.Room.{nothing}
use Rattle.model.specs.Trees.{Tree, Description}
use Rattle.model.specs.Volumes.{Volume}
use Rattle.model.specs.declared.command.Whence.{Whence}
use Rattle.model.specs.declared.reply.Reply.TheVariants.{At}
use Rattle.descriptors.specs.Files.{description_of}
use Rattle.descriptors.specs.Tables.{open_at}
use Rattle.descriptors.specs.declared.open_file.OpenFile.{OpenFile}
use Rattle.descriptors.specs.declared.table.Descriptors.{Descriptors}
use Rattle.files.specs.Opened.{tree_with}
use Rattle.files.specs.Seeking.{IsPlace, place_tests}
use Rattle.files.proofs.OpenLaws.{is_open, passes}

module _ (table : Descriptors) (v : Volume) (fd : ℕ) (whence : Whence) (offset : ℤ) where
  abbrev t : Tree
  t = tree_with table v

  abbrev place_of : Description → ℤ
  place_of f = pos (base_of t f whence) +ℤ offset

  abbrev moves : Description → Outcome
  moves f = tested t (place_tests (place_of f)) (changes (At (nat_abs (place_of f))) (with_offset fd f (nat_abs (place_of f)) t) nothing)

  pub seek_moved : (f : OpenFile) (place : ℕ) (new : Tree) → open_at table fd ≡ Some f → IsPlace (place_of (description_of f)) (Ok place) → new ≡ with_offset fd (description_of f) place t
      → seeks t fd whence offset (At place) new nothing
  seek_moved f place new some is same =
      is_open table v fd moves f (At place) new nothing some
      (passes t (place_tests (place_of (description_of f))) _ (At place) new nothing is.0
      (ap (λ k. At k) (sym is.1), same ∙ ap (λ k. with_offset fd (description_of f) k t) (sym is.1), refl))
