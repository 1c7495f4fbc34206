-- The table of open files beside a volume.
use Rattle.std.proofs.Common.{◌≡◌, ◌≢◌, ◌<◌, ◌≤◌, ◌==◌, inl, inr, ℕ, if◌then◌else◌, Bool, true, false, Option, Some, None, refl, sym, ap, subst, ◌∙◌}
use Rattle.std.proofs.lemmas.Bool.{cases_lt, cond-false, cond-true, eq-eqb, eqb-true, ne_eqb}
use Rattle.std.proofs.lemmas.Option.{none-some, same_Some}
use Rattle.std.specs.Option.{option_map}
use Rattle.model.specs.Trees.{Description}
use Rattle.model.specs.Volumes.{IsMounted, Node, Volume, directory_node, file_node, link_node, is_file_node, is_open, swept, swept_node}
use Rattle.model.specs.declared.limits.TheConstants.{GREATEST_OFFSET, OPEN_FILES}
use Rattle.model.proofs.SweepLemmas.{found_open, stays_open}
use Rattle.descriptors.specs.Files.{Figures, KeepsBounds, figures_of, description_of, refigured_file, node_figures, relinked_file, resized_file, with_figure_links, with_size}
use Rattle.descriptors.specs.Fits.{SameFigures, FitsVolume, ChangesFigures, IsFileOf}
use Rattle.descriptors.specs.Tables.{open_at, put_open, table_of}
use Rattle.descriptors.specs.Openings.{opened_file}
use Rattle.descriptors.specs.Shared.{shared_at}
use Rattle.descriptors.specs.Slots.{slot_at}
use Rattle.descriptors.specs.declared.description.OpenDescription.{OpenDescription}
use Rattle.descriptors.specs.declared.open_file.OpenFile.{OpenFile}
use Rattle.descriptors.specs.declared.shared.SharedFile.{SharedFile}
use Rattle.descriptors.specs.declared.table.Descriptors.{Descriptors}
use Rattle.descriptors.proofs.OpenLemmas.{from_put}
use Rattle.descriptors.proofs.TableLemmas.{files_none, files_some, kept_file}

-- what is mapped to something comes from something
pub mapped : {A B : Type 0} (f : A → B) (o : Option A) (b : B) → option_map f o ≡ Some b → (a : A) × (o ≡ Some a) × (f a ≡ b)
mapped f None b e = cc
mapped f (Some a) b e = (a, refl, cc)

-- no descriptor is open past the bound
pub past_bound : (t : Descriptors) (fd : ℕ) → OPEN_FILES ≤ fd → open_at t fd ≡ None
past_bound t fd past = files_none (slot_at t.slots) (shared_at t.files) fd (t.consistent.bounded fd past)

-- an open file stands below the bound
pub below_bound : (t : Descriptors) (fd : ℕ) (f : OpenFile) → open_at t fd ≡ Some f → fd < OPEN_FILES
below_bound t fd f e =
    elim (cases_lt fd OPEN_FILES) [
      | inl lt ↦ lt
      | inr past ↦
          let out : open_at t fd ≡ None = past_bound t fd past in cc
    ]

-- an open file keeps to the limits
pub keeps_bounds : (t : Descriptors) (fd : ℕ) (f : OpenFile) → open_at t fd ≡ Some f → KeepsBounds f
keeps_bounds t fd f e = from (slot_at t.slots fd) refl
  where
    from : (o : Option OpenDescription) → slot_at t.slots fd ≡ o → KeepsBounds f
    from None is = absurd (none-some f (sym (files_none (slot_at t.slots) (shared_at t.files) fd is) ∙ e))
    from (Some d) is =
        let kept = kept_file (slot_at t.slots) (shared_at t.files) t.consistent fd d is in
        let same : opened_file d kept.0 ≡ f = same_Some (opened_file d kept.0) f (sym (files_some (slot_at t.slots) (shared_at t.files) fd d kept.0 is kept.1) ∙ e) in
        subst KeepsBounds same (record { offset = t.consistent.offsets fd d is; size = t.consistent.sizes d.number kept.0 kept.1 })

pub is_opened : (t : Descriptors) (fd : ℕ) (f : OpenFile) → open_at t fd ≡ Some f → is_open (table_of t) OPEN_FILES f.number ≡ true
is_opened t fd f e = found_open (table_of t) OPEN_FILES fd f.number (description_of f) (below_bound t fd f e) (ap (option_map description_of) e) refl

pub fits_same : (t : Descriptors) (v w : Volume) → FitsVolume t v → SameFigures t v w → FitsVolume t w
fits_same t v w fits same = record { files = λ fd f e. same f.number (is_opened t fd f e) ∙ fits.files fd f e }

pub fits_swept : (t : Descriptors) (v : Volume) → FitsVolume t v → FitsVolume t (swept (table_of t) v)
fits_swept t v fits = fits_same t v (swept (table_of t) v) fits (λ k opened. ap node_figures (ap (λ b. swept_node b (v k)) opened ∙ stays_open (v k)))

pub figured_file : (o : Option Node) (figures : Figures) → node_figures o ≡ Some figures → is_file_node o ≡ true
figured_file None figures e = cc
figured_file (Some (directory_node attributes names)) figures e = cc
figured_file (Some (file_node attributes links bytes)) figures e = refl
figured_file (Some (link_node attributes text)) figures e = cc

pub fits_mounted : (t : Descriptors) (v : Volume) → FitsVolume t v → ((n : ℕ) → swept (table_of t) v n ≡ v n) → IsMounted v (table_of t)
fits_mounted t v fits is_swept = record {
  files = λ d f e.
      let from = mapped description_of (open_at t d) f e in
      ap (λ (g : Description). is_file_node (v g.number)) (sym from.2) ∙ figured_file (v from.0.number) (figures_of from.0) (fits.files d from.0 from.1);
  is_swept = is_swept;
  bounded = λ d past. ap (option_map description_of) (past_bound t d past);
  offsets = λ d f e.
      let from = mapped description_of (open_at t d) f e in
      subst (λ (g : Description). g.offset ≤ GREATEST_OFFSET) from.2 (keeps_bounds t d from.0 from.1).offset;
}

-- each open file with a number gets other figures, and the volume's file too
pub fits_changed : (old new : Descriptors) (n : ℕ) (change : Figures → Figures) (h : OpenFile → OpenFile) (v w : Volume)
    → ((fd : ℕ) → open_at new fd ≡ option_map h (open_at old fd))
    → ((f : OpenFile) → (h f).number ≡ f.number)
    → ((f : OpenFile) → figures_of (h f) ≡ (if f.number == n then change (figures_of f) else figures_of f))
    → FitsVolume old v → ChangesFigures old n change v w → FitsVolume new w
fits_changed old new n change h v w files number figures fits changes = record {
  files = λ fd f e.
      let from = mapped h (open_at old fd) f (sym (files fd) ∙ e) in
      let g : OpenFile = from.0 in
      let was : node_figures (v g.number) ≡ Some (figures_of g) = fits.files fd g from.1 in
      let now : node_figures (w g.number) ≡ (if g.number == n then option_map change (node_figures (v g.number)) else node_figures (v g.number)) =
      changes g.number (is_opened old fd g from.1) in
      ap (λ (k : OpenFile). node_figures (w k.number)) (sym from.2) ∙ ap (λ k. node_figures (w k)) (number g)
      ∙ now ∙ ap (λ (o : Option Figures). if g.number == n then option_map change o else o) was
      ∙ either (g.number == n) (figures_of g) ∙ ap (λ k. Some k) (sym (figures g)) ∙ ap (λ k. Some (figures_of k)) from.2;
}
  where
    either : (b : Bool) (k : Figures) → (if b then option_map change (Some k) else Some k) ≡ Some (if b then change k else k)
    either true k = refl
    either false k = refl

pub resized_number : (n size : ℕ) (f : OpenFile) → (resized_file n size f).number ≡ f.number
resized_number n size f = elim (f.number == n) as (λ b. (if b then record f { size = size } else f).number ≡ f.number) [ true ↦ refl | false ↦ refl ]

pub resized_figures : (n size : ℕ) (f : OpenFile) → figures_of (resized_file n size f) ≡ (if f.number == n then with_size size (figures_of f) else figures_of f)
resized_figures n size f =
    elim (f.number == n) as (λ b. figures_of (if b then record f { size = size } else f) ≡ (if b then with_size size (figures_of f) else figures_of f)) [ true ↦ refl | false ↦ refl ]

pub relinked_number : (n links : ℕ) (f : OpenFile) → (relinked_file n links f).number ≡ f.number
relinked_number n links f = elim (f.number == n) as (λ b. (if b then record f { links = links } else f).number ≡ f.number) [ true ↦ refl | false ↦ refl ]

pub relinked_figures : (n links : ℕ) (f : OpenFile) → figures_of (relinked_file n links f) ≡ (if f.number == n then with_figure_links links (figures_of f) else figures_of f)
relinked_figures n links f =
    elim (f.number == n) as (λ b. figures_of (if b then record f { links = links } else f) ≡ (if b then with_figure_links links (figures_of f) else figures_of f)) [ true ↦ refl | false ↦ refl ]

-- ---- a file opened, and a descriptor freed or moved

pub fits_opened : (old new : Descriptors) (fd : ℕ) (file : OpenFile) → ((d : ℕ) → open_at new d ≡ put_open fd (Some file) (λ e. option_map (refigured_file file) (open_at old e)) d)
    → (v : Volume) → FitsVolume old v → IsFileOf v file → FitsVolume new v
fits_opened old new fd file files v fits is = record {
  files = λ d f e.
      elim (from_put fd (Some file) (λ k. option_map (refigured_file file) (open_at old k)) d f (sym (files d) ∙ e)) [
        | inl here ↦ subst (IsFileOf v) (same_Some file f here) is
        | inr there ↦
            let from = mapped (refigured_file file) (open_at old d) f there in
            subst (IsFileOf v) from.2 (refigured (from.0.number == file.number) from.0 (λ same. eqb-true from.0.number file.number same) (fits.files d from.0 from.1))
      ];
}
  where
    refigured : (b : Bool) (g : OpenFile) → (b ≡ true → g.number ≡ file.number) → IsFileOf v g → IsFileOf v (if b then record g { size = file.size; links = file.links } else g)
    refigured true g same fit = ap (λ n. node_figures (v n)) (same refl) ∙ is
    refigured false g same fit = fit

pub fits_put : (old new : Descriptors) (fd : ℕ) (o : Option OpenFile) → ((d : ℕ) → open_at new d ≡ put_open fd o (open_at old) d) → (v : Volume)
    → ((f : OpenFile) → o ≡ Some f → IsFileOf v f) → FitsVolume old v → FitsVolume new v
fits_put old new fd o files v is fits = record {
  files = λ d f e. elim (from_put fd o (open_at old) d f (sym (files d) ∙ e)) [ inl here ↦ is f here | inr there ↦ fits.files d f there ];
}

pub fits_still : (old new : Descriptors) → ((d : ℕ) → open_at new d ≡ open_at old d) → (v : Volume) → FitsVolume old v → FitsVolume new v
fits_still old new files v fits = record { files = λ d f e. fits.files d f (sym (files d) ∙ e) }

-- ---- the file of a number changed

pub resized_others : (n size : ℕ) (d : OpenDescription) (f : SharedFile) → d.number ≢ n → resized_file n size (opened_file d f) ≡ opened_file d f
resized_others n size d f other = cond-false (d.number == n) (record (opened_file d f) { size = size }) (opened_file d f) (ne_eqb d.number n other)

pub resized_here : (n size : ℕ) (f : SharedFile) (d : OpenDescription) → d.number ≡ n → resized_file n size (opened_file d f) ≡ opened_file d (record f { size = size })
resized_here n size f d same = cond-true (d.number == n) (record (opened_file d f) { size = size }) (opened_file d f) (eq-eqb d.number n same)

pub relinked_others : (n links : ℕ) (d : OpenDescription) (f : SharedFile) → d.number ≢ n → relinked_file n links (opened_file d f) ≡ opened_file d f
relinked_others n links d f other = cond-false (d.number == n) (record (opened_file d f) { links = links }) (opened_file d f) (ne_eqb d.number n other)

pub relinked_here : (n links : ℕ) (f : SharedFile) (d : OpenDescription) → d.number ≡ n → relinked_file n links (opened_file d f) ≡ opened_file d (record f { links = links })
relinked_here n links f d same = cond-true (d.number == n) (record (opened_file d f) { links = links }) (opened_file d f) (eq-eqb d.number n same)
