-- Tables of open files, and the files that they keep open.
use Rattle.std.proofs.Common.{◌≡◌, ◌≢◌, ◌==◌, ◌||◌, inl, inr, ℕ, zero, suc, Bool, true, false, Option, Some, None, refl, sym, ap, ◌∙◌}
use Rattle.std.proofs.lemmas.Bool.{cases_Bool, cases_eq, false≢true, cond-true, cond-false, eq-eqb, ne_eqb, or_left, or_right}
use Rattle.std.specs.Option.{option_map}
use Rattle.std.specs.Prelude.{IsSome}
use Rattle.model.specs.Trees.{Description}
use Rattle.model.specs.declared.limits.TheConstants.{OPEN_FILES}
use Rattle.model.specs.Volumes.{Node, Volume, directory_node, file_node, link_node, is_numbered, is_open, swept, swept_node}
use Rattle.descriptors.specs.Files.{description_of}
use Rattle.descriptors.specs.Tables.{KeepsRoom, open_at, put_open, table_of}
use Rattle.descriptors.specs.declared.open_file.OpenFile.{OpenFile}
use Rattle.descriptors.specs.declared.table.Descriptors.{Descriptors}
use Rattle.files.proofs.OpenLaws.{moved_numbers}
use Rattle.records.specs.Opened.{HasNumbers}
use Rattle.dispatch.specs.OpenFiles.{HasRoomToMove, KeepsOpen}
use Rattle.dispatch.specs.declared.table_move.TableMove.{TableMove}
use Rattle.dispatch.specs.declared.table_move.TableMove.TheVariants.{Moves, Opens, Stays}

-- what is open among the first descriptors stays so
open_stays : (table after : ℕ → Option Description) → KeepsOpen table after → (bound n : ℕ) → is_open table bound n ≡ true → is_open after bound n ≡ true
open_stays table after keeps zero n is = is
open_stays table after keeps (suc d) n is =
    elim (cases_Bool (is_numbered (table d) n)) [
      | inl here ↦ or_left (is_numbered (after d) n) (is_open after d n) (keeps d n here)
      | inr not ↦ or_right (is_numbered (after d) n) (is_open after d n) (open_stays table after keeps d n (ap (λ b. b || is_open table d n) (sym not) ∙ is))
    ]

-- what wasn't swept, as it was open or has a name, isn't now
node_stays : (before now : Bool) (o : Option Node) → (before ≡ true → now ≡ true) → swept_node before o ≡ o → swept_node now o ≡ o
node_stays before now None keeps is = refl
node_stays before now (Some (directory_node attributes names)) keeps is = refl
node_stays before now (Some (file_node attributes (suc links) bytes)) keeps is = refl
node_stays before now (Some (link_node attributes text)) keeps is = refl
node_stays true now (Some (file_node attributes zero bytes)) keeps is = ap (λ b. swept_node b (Some (file_node attributes zero bytes))) (keeps refl)
node_stays false now (Some (file_node attributes zero bytes)) keeps is = cc

pub swept_stays : (table after : ℕ → Option Description) (v : Volume) → KeepsOpen table after → ((n : ℕ) → swept table v n ≡ v n) → (n : ℕ) → swept after v n ≡ v n
swept_stays table after v keeps is n = node_stays (is_open table OPEN_FILES n) (is_open after OPEN_FILES n) (v n) (open_stays table after keeps OPEN_FILES n) (is n)

-- a file put at a descriptor that is free, or in place of one with its number, keeps open what is open
pub put_keeps : (table : ℕ → Option Description) (fd : ℕ) (f : Description) → ((n : ℕ) → is_numbered (table fd) n ≡ true → is_numbered (Some f) n ≡ true) → KeepsOpen table (put_open fd (Some f) table)
put_keeps table fd f same d n is =
    elim (cases_eq d fd) [
      | inl here ↦
          ap (λ (o : Option Description). is_numbered o n) (cond-true (d == fd) (Some f) (table d) (eq-eqb d fd here))
          ∙ same n (ap (λ (k : ℕ). is_numbered (table k) n) (sym here) ∙ is)
      | inr other ↦ ap (λ (o : Option Description). is_numbered o n) (cond-false (d == fd) (Some f) (table d) (ne_eqb d fd other)) ∙ is
    ]

-- ---- numbers

opened_file : (files : Descriptors) (fd : ℕ) → IsSome (table_of files fd) → (f : OpenFile) × (open_at files fd ≡ Some f)
opened_file files fd =
    elim (open_at files fd) as (λ o. open_at files fd ≡ o → IsSome (option_map description_of o) → (f : OpenFile) × (open_at files fd ≡ Some f)) [
      | Some f ↦ λ is some. (f, is)
      | None ↦ λ is some. absurd (false≢true some)
    ] refl

-- a moved offset changes no number
pub move_numbers : (n : ℕ) (old new : Descriptors) (fd place : ℕ) → IsSome (table_of old fd)
    → ((d : ℕ) (f : OpenFile) → open_at old fd ≡ Some f → open_at new d ≡ put_open fd (Some (record f { offset = place })) (open_at old) d) → HasNumbers n old → HasNumbers n new
move_numbers n old new fd place some files has =
    let f = opened_file old fd some in
    moved_numbers n old new fd place f.0 f.1 (λ d. files d f.0 f.1) has

-- ---- room

-- what opens nothing needs none
pub room_beside : (files : Descriptors) (move : TableMove) → ((fd : ℕ) (file : OpenFile) → move ≢ Opens fd file) → HasRoomToMove files move
room_beside files Stays not = tt
room_beside files (Moves fd place) not = tt
room_beside files (Opens fd file) not = absurd (not fd file refl)

-- what there is stays
pub room_stays : (old new : Descriptors) (move : TableMove) → KeepsRoom old new → HasRoomToMove old move → HasRoomToMove new move
room_stays old new Stays keeps room = tt
room_stays old new (Moves fd place) keeps room = tt
room_stays old new (Opens fd file) keeps room = keeps fd room

-- a table with the same open files has the same numbers
pub same_numbers : (n : ℕ) (old new : Descriptors) → ((fd : ℕ) → open_at new fd ≡ open_at old fd) → HasNumbers n old → HasNumbers n new
same_numbers n old new same has = record { numbers = λ fd f is. has.numbers fd f (sym (same fd) ∙ is) }
