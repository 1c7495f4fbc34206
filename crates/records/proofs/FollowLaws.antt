-- The table of open files behind a change.
use Rattle.std.proofs.Common.{◌≡◌, ◌⊎◌, inl, inr, ℕ, ◌==◌, List, Bool, true, false, Option, Some, None, IsTrue, refl, sym, ap, subst, ◌∙◌}
use Rattle.std.specs.Option.{option_map}
use Rattle.std.proofs.lemmas.Bool.{cases_eq, cond-true, cond-false, eq-eqb, ne_eqb}
use Rattle.std.proofs.lemmas.List.FromFn.{length-map-range_with_len}
use Rattle.layout.specs.FileBytes.{byte_in}
use Rattle.layout.specs.declared.inode.Inode.{Inode}
use Rattle.model.specs.Records.{Edit, edited, marked_nodes, with_node_attributes}
use Rattle.model.specs.Touches.{Touches}
use Rattle.model.specs.Trees.{Description}
use Rattle.model.specs.declared.limits.TheConstants.{OPEN_FILES}
use Rattle.model.specs.Volumes.{Node, directory_node, file_node, link_node, Volume, IsMounted, is_file_node, is_open, swept, swept_node, with_node}
use Rattle.model.specs.declared.attributes.Attributes.{Attributes}
use Rattle.model.specs.declared.time.Time.{Time}
use Rattle.model.proofs.MarkLemmas.{marked_by, marked_file}
use Rattle.model.proofs.RecordLemmas.{swept_twice}
use Rattle.model.proofs.SweepLemmas.{opened_by, stays_open}
use Rattle.inode.specs.declared.object.Object.{Object}
use Rattle.inofile.specs.Objects.{IsObject}
use Rattle.inofile.specs.Settled.{content_of_object}
use Rattle.inofile.specs.declared.inode_file.InodeFile.{InodeFile}
use Rattle.descriptors.specs.Files.{Figures, description_of, figures_of, node_figures, relinked_file, resized_file}
use Rattle.descriptors.specs.Fits.{FitsVolume}
use Rattle.descriptors.specs.Tables.{open_at, table_of}
use Rattle.descriptors.specs.declared.open_file.OpenFile.{OpenFile}
use Rattle.descriptors.specs.declared.table.Descriptors.{Descriptors}
use Rattle.descriptors.proofs.FitLemmas.{fits_same, is_opened, mapped, relinked_figures, relinked_number, resized_figures, resized_number}
use Rattle.records.specs.Plans.{DoesEdit}
use Rattle.records.specs.Steps.{IsBeside}
use Rattle.records.specs.Sweeping.{OpensFiles, with_object_of, without_file}
use Rattle.records.specs.declared.plans.Plan.{Plan}
use Rattle.records.specs.declared.steps.ObjectUpdate.{ObjectUpdate}
use Rattle.records.proofs.KindLaws.{file_stands, is_kind}
use Rattle.images.specs.Soundness.{by_bytes}
use Rattle.records.proofs.SweepLaws.{number_of, rest_stays}
use Rattle.model.proofs.ObjectLaws.{node_here, node_other}

-- ---- a file in memory

-- a file has the links and the size that its object in memory has
pub object_figures : (disk : ℕ → List ℕ) (inodes : ℕ) (settled : Inode) (o : Object) (found : Option Node) → IsObject disk inodes settled o found → IsTrue (is_file_node found)
    → node_figures found ≡ Some (record { links = o.status.links; size = o.file.size })
object_figures disk inodes settled o found stands is =
    ap node_figures (file_stands o.status.kind inodes (content_of_object disk o) found stands.stands (is_kind by_bytes o.status.kind inodes (content_of_object disk o) found stands.stands is))
    ∙ ap (λ (s : ℕ). Some (record { links = o.status.links; size = s })) (length-map-range_with_len (byte_in (content_of_object disk o).block) 0 o.file.size)

-- ---- open files with the figures noted that a number has

module _ (n size links : ℕ) where
  abbrev noted_file : OpenFile → OpenFile
  noted_file f = relinked_file n links (resized_file n size f)

  noted_number : (f : OpenFile) → (noted_file f).number ≡ f.number
  noted_number f = relinked_number n links (resized_file n size f) ∙ resized_number n size f

  noted_here : (f : OpenFile) → f.number ≡ n → figures_of (noted_file f) ≡ record { links = links; size = size }
  noted_here f same =
      let mid = resized_file n size f in
      let number : mid.number ≡ f.number = resized_number n size f in
      relinked_figures n links mid ∙ cond-true (mid.number == n) (record { links = links; size = (figures_of mid).size }) (figures_of mid) (eq-eqb mid.number n (number ∙ same))
      ∙ ap (λ (k : Figures). record { links = links; size = k.size })
      (resized_figures n size f ∙ cond-true (f.number == n) (record { links = (figures_of f).links; size = size }) (figures_of f) (eq-eqb f.number n same))

  noted_other : (f : OpenFile) → (f.number ≡ n → ⊥) → figures_of (noted_file f) ≡ figures_of f
  noted_other f other =
      let mid = resized_file n size f in
      let number : mid.number ≡ f.number = resized_number n size f in
      relinked_figures n links mid ∙ cond-false (mid.number == n) (record { links = links; size = (figures_of mid).size }) (figures_of mid) (ne_eqb mid.number n (λ e. other (sym number ∙ e)))
      ∙ resized_figures n size f ∙ cond-false (f.number == n) (record { links = (figures_of f).links; size = size }) (figures_of f) (ne_eqb f.number n other)

  module _ (old mid new : Descriptors) (sized : (fd : ℕ) → open_at mid fd ≡ option_map (resized_file n size) (open_at old fd)) (linked : (fd : ℕ) → open_at new fd ≡ option_map (relinked_file n links) (open_at mid fd)) where
    -- each open file was open, but for its figures
    came_from : (fd : ℕ) (f : OpenFile) → open_at new fd ≡ Some f → (g : OpenFile) × (open_at old fd ≡ Some g) × (noted_file g ≡ f)
    came_from fd f e =
        let (m, was_mid, is_f) = mapped (relinked_file n links) (open_at mid fd) f (sym (linked fd) ∙ e) in
        let (g, was, is_m) = mapped (resized_file n size) (open_at old fd) m (sym (sized fd) ∙ was_mid) in
        (g, was, ap (relinked_file n links) is_m ∙ is_f)

    -- the table that fits a volume fits it with the file too whose figures these are
    pub noted_fits : (v : Volume) (file : Option Node) → node_figures file ≡ Some (record { links = links; size = size }) → FitsVolume old v → FitsVolume new (with_node n file v)
    noted_fits v file figures fits = record {
      files = λ fd f e.
          let (g, was, is) = came_from fd f e in
          let number : f.number ≡ g.number = ap (λ (h : OpenFile). h.number) (sym is) ∙ noted_number g in
          elim (cases_eq g.number n) [
            | inl same ↦
                ap node_figures (node_here n f.number file v (number ∙ same)) ∙ figures ∙ ap (λ (k : Figures). Some k) (sym (noted_here g same))
                ∙ ap (λ (h : OpenFile). Some (figures_of h)) is
            | inr other ↦
                ap node_figures (node_other n f.number file v (λ e. other (sym number ∙ e))) ∙ ap (λ (k : ℕ). node_figures (v k)) number ∙ fits.files fd g was
                ∙ ap (λ (k : Figures). Some k) (sym (noted_other g other)) ∙ ap (λ (h : OpenFile). Some (figures_of h)) is
          ];
    }

-- ---- the table beside what no descriptor is open for

-- a table that fits a volume fits it with another object too that isn't open
pub closed_fits : (t : Descriptors) (n : ℕ) (node : Option Node) (v : Volume) → is_open (table_of t) OPEN_FILES n ≡ false → FitsVolume t v → FitsVolume t (with_node n node v)
closed_fits t n node v closed fits = fits_same t v (with_node n node v) fits (λ k opened. ap node_figures (node_other n k node v (λ e. apart k opened e)))
  where
    both : (b : Bool) → b ≡ true → b ≡ false → ⊥
    both b is not = cc

    apart : (k : ℕ) → is_open (table_of t) OPEN_FILES k ≡ true → k ≡ n → ⊥
    apart k opened e = both (is_open (table_of t) OPEN_FILES n) (ap (is_open (table_of t) OPEN_FILES) (sym e) ∙ opened) closed

-- what a descriptor is open for is a file
pub opened_file : (table : ℕ → Option Description) (v : Volume) (n : ℕ) → OpensFiles table v → is_open table OPEN_FILES n ≡ true → IsTrue (is_file_node (v n))
opened_file table v n opens is =
    let (d, f, there, same) = opened_by table OPEN_FILES n is in
    subst (λ (k : ℕ). IsTrue (is_file_node (v k))) same (opens d f there)

-- ---- the whole change

file_before : (b : Bool) (o : Option Node) → IsTrue (is_file_node (swept_node b o)) → IsTrue (is_file_node o)
file_before b None is = is
file_before b (Some (directory_node attributes names)) is = is
file_before b (Some (file_node attributes links bytes)) is = refl
file_before b (Some (link_node attributes text)) is = is

-- what is swept has its open files already
pub swept_opens : (table : ℕ → Option Description) (w : Volume) → IsMounted (swept table w) table → OpensFiles table w
swept_opens table w mounted = λ d f e. file_before (is_open table OPEN_FILES f.number) (w f.number) (mounted.files d f e)

module _ (disk : ℕ → List ℕ) (settled : ℕ → Inode) (s : InodeFile) (v : Volume) (p : Plan) (edit : Edit) (does : DoesEdit disk settled s v p edit) (t : Descriptors) where
  abbrev table : ℕ → Option Description
  table = table_of t

  abbrev w : Volume
  w = edited edit v

  abbrev one : Volume
  one = without_file table (Some p.first.number) w

  abbrev two : Volume
  two = without_file table (number_of p.next) one

  -- what is open stays where a file goes that has neither name nor descriptor
  open_stays : (x : Volume) (n : Option ℕ) (k : ℕ) → is_open table OPEN_FILES k ≡ true → without_file table n x k ≡ x k
  open_stays x None k opened = refl
  open_stays x (Some n) k opened = elim (cases_eq k n) [
    | inl here ↦
        node_here n k (swept_node (is_open table OPEN_FILES n) (x n)) x here ∙ ap (λ (j : ℕ). swept_node (is_open table OPEN_FILES j) (x j)) (sym here)
        ∙ ap (λ (b : Bool). swept_node b (x k)) opened ∙ stays_open (x k)
    | inr other ↦ node_other n k (swept_node (is_open table OPEN_FILES n) (x n)) x other
  ]

  open_number : (d : ℕ) (f : Description) → table d ≡ Some f → is_open table OPEN_FILES f.number ≡ true
  open_number d f e =
      let (g, some, is) = mapped description_of (open_at t d) f e in
      ap (λ (h : Description). is_open table OPEN_FILES h.number) (sym is) ∙ is_opened t d g some

  -- so its files are files still
  pub still_files : (x : Volume) (n : Option ℕ) → OpensFiles table x → OpensFiles table (without_file table n x)
  still_files x n opens = λ d f e. subst (λ (o : Option Node). IsTrue (is_file_node o)) (sym (open_stays x n f.number (open_number d f e))) (opens d f e)

  -- an object is the changed one where it was taken from there, and else as it was
  taken_or_beside : (x y : Volume) (step : Option ObjectUpdate) (k : ℕ) → x k ≡ w k → (with_object_of x (number_of step) y k ≡ w k) ⊎ ((with_object_of x (number_of step) y k ≡ y k) × IsBeside k step)
  taken_or_beside x y None k is = inr (refl, tt)
  taken_or_beside x y (Some step) k is = elim (cases_eq k step.number) [
    | inl here ↦ inl (node_here step.number k (x step.number) y here ∙ ap x (sym here) ∙ is)
    | inr other ↦ inr (node_other step.number k (x step.number) y other, λ e. other (sym e))
  ]

  abbrev first_taken : Volume
  first_taken = with_object_of w (Some p.first.number) v

  abbrev next_taken : Volume
  next_taken = with_object_of one (number_of p.next) first_taken

  abbrev all_taken : Volume
  all_taken = with_object_of two (number_of p.last) next_taken

  taken_is : (k : ℕ) → is_open table OPEN_FILES k ≡ true → all_taken k ≡ w k
  taken_is k opened =
      let one_is : one k ≡ w k = open_stays w (Some p.first.number) k opened in
      let two_is : two k ≡ w k = open_stays one (number_of p.next) k opened ∙ one_is in
      elim (taken_or_beside two next_taken p.last k two_is) [
        | inl done ↦ done
        | inr (same, last) ↦ elim (taken_or_beside one first_taken p.next k one_is) [
          | inl done ↦ same ∙ done
          | inr (same_next, next) ↦ elim (taken_or_beside w v (Some p.first) k refl) [
            | inl done ↦ same ∙ same_next ∙ done
            | inr (same_first, first) ↦ same ∙ same_next ∙ same_first ∙ sym (rest_stays disk settled s v p edit does k first next last)
          ]
        ]
      ]

  -- a table that has taken over what a change's numbers have then fits what the change leaves
  pub fits_all : (next last : Option ℕ) (new : Descriptors) → next ≡ number_of p.next → last ≡ number_of p.last → table_of new ≡ table
      → FitsVolume new (with_object_of (without_file table next one) last (with_object_of one next first_taken)) → FitsVolume new (swept table w)
  fits_all next last new is_next is_last is_table fits =
      fits_same new all_taken (swept table w)
      (subst (λ (n : Option ℕ). FitsVolume new (with_object_of two n next_taken)) is_last
      (subst (λ (n : Option ℕ). FitsVolume new (with_object_of (without_file table n one) last (with_object_of one n first_taken))) is_next fits))
      (λ k opened.
      let is : is_open table OPEN_FILES k ≡ true = ap (λ (t : ℕ → Option Description). is_open t OPEN_FILES k) (sym is_table) ∙ opened in
      ap node_figures (ap (λ (b : Bool). swept_node b (w k)) is ∙ stays_open (w k) ∙ sym (taken_is k is)))

-- ---- what is touched

attributes_figures : (f : Attributes → Attributes) (o : Option Node) → node_figures (with_node_attributes f o) ≡ node_figures o
attributes_figures f None = refl
attributes_figures f (Some (directory_node attributes names)) = refl
attributes_figures f (Some (file_node attributes links bytes)) = refl
attributes_figures f (Some (link_node attributes text)) = refl

module _ (time : Option Time) (touches : Touches) (w : Volume) where
  -- a table fits a volume with marks, where it fits the volume
  pub fits_marked : (t : Descriptors) → FitsVolume t w → FitsVolume t (marked_nodes time touches w)
  fits_marked t fits = fits_same t w (marked_nodes time touches w) fits (λ k opened. marked_by time touches w node_figures attributes_figures k)

  -- what is swept is mounted, where it is with marks
  pub mounted_unmarked : (table : ℕ → Option Description) → IsMounted (marked_nodes time touches (swept table w)) table → IsMounted (swept table w) table
  mounted_unmarked table mounted = record {
    files = λ d f is. sym (marked_file time touches (swept table w) f.number) ∙ mounted.files d f is;
    is_swept = λ n. swept_twice (is_open table OPEN_FILES n) (w n);
    bounded = mounted.bounded;
    offsets = mounted.offsets;
  }
