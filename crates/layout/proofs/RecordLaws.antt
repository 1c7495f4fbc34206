-- The body of a record: what is read is spelled so, and what is spelled so is read.
use Rattle.std.proofs.Common.{false}
use Rattle.layout.specs.Trees.{has_attributes}
use Rattle.std.proofs.Common.{◌≡◌, ℕ, ◌<◌, Bool, true, eqb, List, [], ◌∷◌, ◌++◌, length, Option, Some, None, cond, refl, sym, ap, subst, ◌∙◌, arith}
use Rattle.std.specs.Prelude.{is_some}
use Rattle.std.proofs.lemmas.Bool.{eqb-true}
use Rattle.std.proofs.lemmas.List.{append-nil, nil_from_length}
use Rattle.model.specs.Attributes.{epoch}
use Rattle.model.specs.declared.attributes.Permissions.{Permissions}
use Rattle.model.specs.declared.time.Time.{Time}
use Rattle.layout.specs.declared.trees.Layout.{Layout}
use Rattle.layout.specs.declared.trees.Layout.TheVariants.{Plain, Summed}
use Rattle.layout.specs.Attributes.{time_read}
use Rattle.layout.specs.Bytes.{little, IsBytes}
use Rattle.layout.specs.Format.{Format}
use Rattle.layout.specs.Permissions.{modified_bytes, modified_read, permission_bytes, permissions_read}
use Rattle.layout.specs.Reading.{◌>>=◌, number_read, counted_at, all_of}
use Rattle.layout.specs.Record.{Made, file, directory, symbolic_link, Change, stamped, Edit, create, link, remove_name, rename, write, truncate, change_attributes, set_file, create_head, link_fields, remove_name_fields, rename_fields, write_fields, truncate_fields, set_file_fields, kind_of_made, permissions_of_made, name_bytes, text_bytes, edit_bytes, op_of, time_bytes, change_bytes, KeepsMadeLimits, FitsEditFields, FitsFields, FitsAttributes, FitsTime, KeepsEditLimits, IsChange}
use Rattle.layout.specs.RecordReading.{link_in, remove_name_in, rename_in, write_in, truncate_in, change_attributes_in, set_file_in, made_in, create_in, edit_in, time_in, change_in}
use Rattle.layout.proofs.AttributeLaws.{time_read_again, time_read_takes}
use Rattle.layout.proofs.NumberLaws.{little_one}
use Rattle.layout.proofs.PermissionLaws.{FitPermissions, epoch_fits, given_fit, modified_again, modified_given, modified_takes, permissions_again, permissions_given, permissions_take}
use Rattle.layout.proofs.Formats.{bind_some, some_is, if_then, tried, Takes, IsExact, num_exact, ranged_exact, counted_exact, then_exact, whole_takes, made_again, byte_again, IsBytes-behind}

create_exact : IsExact create_head
create_exact = then_exact (num_exact 4) (then_exact (num_exact 4) (num_exact 1))

link_exact : IsExact link_fields
link_exact = then_exact (num_exact 4) (then_exact (num_exact 4) (counted_exact 1))

remove_name_exact : IsExact remove_name_fields
remove_name_exact = then_exact (num_exact 4) (counted_exact 1)

rename_exact : IsExact rename_fields
rename_exact = then_exact (num_exact 4) (then_exact (counted_exact 1) remove_name_exact)

write_exact : IsExact write_fields
write_exact = then_exact (num_exact 4) (then_exact (num_exact 8) (counted_exact 4))

truncate_exact : IsExact truncate_fields
truncate_exact = then_exact (num_exact 4) (num_exact 8)

set_file_exact : IsExact set_file_fields
set_file_exact = then_exact (num_exact 4) (then_exact (ranged_exact 2 0 4095 (omega arith)) (num_exact 8))

-- the bytes of a record whose op this is, behind the op
record Spells (has_attributes : Bool) (op : ℕ) (bytes : List ℕ) (e : Edit) : Type 0 where
  op_is : op ≡ op_of e
  bytes_are : bytes ≡ edit_bytes has_attributes e
  fields : FitsEditFields e
  attributes : FitsAttributes has_attributes e

-- a record of these fields is spelled as it was read
fields_take : {A : Type 0} {f : Format A} (has_attributes : Bool) (op : ℕ) → IsExact f → (make : A → Edit) → ((v : A) → f.Fits v → IsBytes (f.text v) → Spells has_attributes op (f.text v) (make v))
    → (bytes : List ℕ) (d : Edit) → IsBytes bytes → (all_of f.at bytes >>= λ v. Some (make v)) ≡ Some d → Spells has_attributes op bytes d
fields_take {A} {f} has_attributes op exact make spells bytes d fits e =
    let w = bind_some (all_of f.at bytes) (λ v. Some (make v)) d e in
    let t = whole_takes exact bytes w.0 fits w.1 in
    subst (λ (d : Edit). Spells has_attributes op bytes d) (some_is (make w.0) d w.2) (subst (λ (r : List ℕ). Spells has_attributes op r (make w.0)) (sym t.0) (spells w.0 t.1 (subst IsBytes t.0 fits)))

written_bytes : (number offset : ℕ) (bytes : List ℕ) → IsBytes (write_fields.text (number, (offset, bytes))) → IsBytes bytes
written_bytes number offset bytes ok =
    let counted = IsBytes-behind (little 4 number) _ ok in
    IsBytes-behind (little 4 (length bytes)) bytes (IsBytes-behind (little 8 offset) _ counted)

nothing_left : {A : Type 0} (bytes : List ℕ) (x y : A) → cond (eqb (length bytes) 0) (Some x) None ≡ Some y → (bytes ≡ []) × (x ≡ y)
nothing_left bytes x y e =
    let g = if_then (eqb (length bytes) 0) (Some x) y e in
    (nil_from_length bytes (eqb-true _ _ g.0), some_is x y g.1)

-- what is made has this kind, these permissions and these last bytes
record IsMade (kind : ℕ) (permissions : Permissions) (bytes : List ℕ) (made : Made) : Type 0 where
  kind_is : kind ≡ kind_of_made made
  permissions_are : permissions ≡ permissions_of_made made
  bytes_are : bytes ≡ text_bytes made

made_takes : (kind : ℕ) (permissions : Permissions) (bytes : List ℕ) (made : Made) → IsBytes bytes → made_in kind permissions bytes ≡ Some made → IsMade kind permissions bytes made
unfolding made_in
made_takes kind permissions bytes made fits e =
    tried (eqb kind 1) _ _ made e (λ is e.
    let g = nothing_left bytes (file permissions) made e in
    subst (IsMade kind permissions bytes) g.1 (record { kind_is = eqb-true _ _ is; permissions_are = refl; bytes_are = g.0 })) (λ e.
    tried (eqb kind 2) _ _ made e (λ is e.
    let g = nothing_left bytes (directory permissions) made e in
    subst (IsMade kind permissions bytes) g.1 (record { kind_is = eqb-true _ _ is; permissions_are = refl; bytes_are = g.0 })) (λ e.
    let k = if_then (eqb kind 3) _ made e in
    let w = bind_some (all_of (counted_at 2) bytes) (λ text. Some (symbolic_link permissions text)) made k.1 in
    let t = whole_takes (counted_exact 2) bytes w.0 fits w.1 in
    subst (IsMade kind permissions bytes) (some_is (symbolic_link permissions w.0) made w.2) (record { kind_is = eqb-true _ _ k.0; permissions_are = refl; bytes_are = t.0 })))

create_takes : (has_attributes : Bool) (bytes : List ℕ) (d : Edit) → IsBytes bytes → create_in has_attributes bytes ≡ Some d → Spells has_attributes 1 bytes d
unfolding create_in
create_takes has_attributes bytes d fits e =
    let w = bind_some (create_head.at bytes) _ d e in
    let head = create_exact.takes bytes w.0 fits w.1 in
    let v = w.0.0 in
    let p = bind_some (permissions_read has_attributes w.0.1) _ d w.2 in
    let given = permissions_take has_attributes w.0.1 p.0 head.0.rest_fits p.1 in
    let n = bind_some (counted_at 1 p.0.1) _ d p.2 in
    let named = (counted_exact 1).takes p.0.1 n.0 given.0.rest_fits n.1 in
    let m = bind_some (made_in v.1.1 p.0.0 n.0.1) (λ made. Some (create v.0 v.1.0 made n.0.0)) d n.2 in
    let made = m.0 in
    let o = made_takes v.1.1 p.0.0 n.0.1 made named.0.rest_fits m.1 in
    let all : ℕ → Permissions → List ℕ → List ℕ = λ kind permissions last. create_head.text (v.0, (v.1.0, kind)) ++ (permission_bytes has_attributes permissions ++ (name_bytes n.0.0 ++ last)) in
    let read : bytes ≡ all v.1.1 p.0.0 n.0.1 = head.0.parts
    ∙ ap (λ (r : List ℕ). create_head.text v ++ r) (given.0.parts ∙ ap (λ (r : List ℕ). permission_bytes has_attributes p.0.0 ++ r) named.0.parts) in
    subst (λ (d : Edit). Spells has_attributes 1 bytes d) (some_is _ d m.2) (record {
      op_is = refl;
      bytes_are = read ∙ (λ i. all (o.kind_is i) (o.permissions_are i) (o.bytes_are i));
      fields = (head.1.0, head.1.1.0);
      attributes = given_fit has_attributes (permissions_of_made made) epoch (subst (FitPermissions has_attributes) o.permissions_are given.1) (epoch_fits has_attributes);
    })

change_attributes_takes : (has_attributes : Bool) (bytes : List ℕ) (d : Edit) → IsBytes bytes → change_attributes_in has_attributes bytes ≡ Some d → Spells has_attributes 7 bytes d
unfolding change_attributes_in
change_attributes_takes has_attributes bytes d fits e =
    let w = bind_some (number_read 4 bytes) _ d e in
    let number = (num_exact 4).takes bytes w.0 fits w.1 in
    let p = bind_some (permissions_read has_attributes w.0.1) _ d w.2 in
    let given = permissions_take has_attributes w.0.1 p.0 number.0.rest_fits p.1 in
    let m = bind_some (modified_read has_attributes p.0.1) _ d p.2 in
    let timed = modified_takes has_attributes p.0.1 m.0 given.0.rest_fits m.1 in
    let g = nothing_left m.0.1 (change_attributes w.0.0 p.0.0 m.0.0) d m.2 in
    let last : p.0.1 ≡ modified_bytes has_attributes m.0.0 =
    timed.0.parts ∙ ap (λ (r : List ℕ). modified_bytes has_attributes m.0.0 ++ r) g.0 ∙ append-nil (modified_bytes has_attributes m.0.0) in
    let read : bytes ≡ edit_bytes has_attributes (change_attributes w.0.0 p.0.0 m.0.0) = number.0.parts
    ∙ ap (λ (r : List ℕ). little 4 w.0.0 ++ r) (given.0.parts ∙ ap (λ (r : List ℕ). permission_bytes has_attributes p.0.0 ++ r) last) in
    subst (λ (d : Edit). Spells has_attributes 7 bytes d) g.1 (record { op_is = refl; bytes_are = read; fields = number.1; attributes = given_fit has_attributes p.0.0 m.0.0 given.1 timed.1 })

edit_takes : (has_attributes : Bool) (op : ℕ) (bytes : List ℕ) (d : Edit) → IsBytes bytes → edit_in has_attributes op bytes ≡ Some d → Spells has_attributes op bytes d
unfolding edit_in link_in remove_name_in rename_in write_in truncate_in set_file_in
edit_takes has_attributes op bytes d fits e =
    let by = λ (k : ℕ) (is : eqb op k ≡ true) (spells : Spells has_attributes k bytes d). subst (λ (j : ℕ). Spells has_attributes j bytes d) (sym (eqb-true op k is)) spells in
    tried (eqb op 1) _ _ d e (λ is e. by 1 is (create_takes has_attributes bytes d fits e)) (λ e.
    tried (eqb op 2) _ _ d e (λ is e. by 2 is (fields_take has_attributes 2 link_exact (λ v. link v.0 v.1.0 v.1.1) (λ v fits ok. record { op_is = refl; bytes_are = refl; fields = fits; attributes = tt }) bytes d fits e)) (λ e.
    tried (eqb op 3) _ _ d e (λ is e. by 3 is (fields_take has_attributes 3 remove_name_exact (λ v. remove_name v.0 v.1) (λ v fits ok. record { op_is = refl; bytes_are = refl; fields = fits; attributes = tt }) bytes d fits e)) (λ e.
    tried (eqb op 4) _ _ d e (λ is e. by 4 is (fields_take has_attributes 4 rename_exact (λ v. rename v.0 v.1.0 v.1.1.0 v.1.1.1) (λ v fits ok. record { op_is = refl; bytes_are = refl; fields = fits; attributes = tt }) bytes d fits e)) (λ e.
    tried (eqb op 5) _ _ d e (λ is e. by 5 is (fields_take has_attributes 5 write_exact (λ v. write v.0 v.1.0 v.1.1) (λ v fits ok. record { op_is = refl; bytes_are = refl; fields = (fits, written_bytes v.0 v.1.0 v.1.1 ok); attributes = tt }) bytes d fits e)) (λ e.
    tried (eqb op 6) _ _ d e (λ is e. by 6 is (fields_take has_attributes 6 truncate_exact (λ v. truncate v.0 v.1) (λ v fits ok. record { op_is = refl; bytes_are = refl; fields = fits; attributes = tt }) bytes d fits e)) (λ e.
    tried (eqb op 7) _ _ d e (λ is e. by 7 is (change_attributes_takes has_attributes bytes d fits e)) (λ e.
    tried (eqb op 8) _ _ d e (λ is e. by 8 is (fields_take has_attributes 8 set_file_exact (λ v. set_file v.0 v.1.0 v.1.1) (λ v fits ok. record { op_is = refl; bytes_are = refl; fields = fits; attributes = tt }) bytes d fits e)) (λ e. absurd cc))))))))

-- a time was read, if the layout has times
time_takes : (layout : Layout) (bytes : List ℕ) (x : Option Time × List ℕ) → IsBytes bytes → time_in layout bytes ≡ Some x → Takes bytes (time_bytes x.0) x.1 × FitsTime (has_attributes layout) x.0
unfolding time_in
time_takes Plain bytes x fits e =
    subst (λ (y : Option Time × List ℕ). Takes bytes (time_bytes y.0) y.1 × FitsTime false y.0) (some_is (None, bytes) x e) (record { parts = refl; rest_fits = fits }, tt)
time_takes Summed bytes x fits e =
    let w = bind_some (time_read bytes) (λ y. Some (Some y.0, y.1)) x e in
    let t = time_read_takes bytes w.0 fits w.1 in
    subst (λ (y : Option Time × List ℕ). Takes bytes (time_bytes y.0) y.1 × FitsTime true y.0) (some_is (Some w.0.0, w.0.1) x w.2) t

-- a record has a time just where its image's objects have attributes
timed : (layout : Layout) (time : Option Time) → FitsTime (has_attributes layout) time → is_some time ≡ has_attributes layout
timed Plain None fits = refl
timed Plain (Some time) fits = absurd fits
timed Summed None fits = absurd fits
timed Summed (Some time) fits = refl

-- the bytes are the record's
pub record Spelled (layout : Layout) (bytes : List ℕ) (c : Change) : Type 0 where
  pub bytes_are : bytes ≡ change_bytes c
  pub time : FitsTime (has_attributes layout) c.time
  pub fields : FitsFields c
  pub attributes : FitsAttributes (has_attributes layout) c.edit

op_small : (e : Edit) → op_of e < 256
op_small (create number parent made name) = omega arith
op_small (link number parent name) = omega arith
op_small (remove_name parent name) = omega arith
op_small (rename parent name new_parent new_name) = omega arith
op_small (write number offset bytes) = omega arith
op_small (truncate number size) = omega arith
op_small (change_attributes number permissions modified) = omega arith
op_small (set_file number mode size) = omega arith

pub change_takes : (layout : Layout) (bytes : List ℕ) (c : Change) → IsBytes bytes → change_in layout bytes ≡ Some c → Spelled layout bytes c
unfolding change_in
change_takes layout bytes c fits e =
    let w = bind_some (number_read 1 bytes) (λ x. time_in layout x.1 >>= λ y. edit_in (has_attributes layout) x.0 y.1 >>= λ edit. Some (stamped y.0 edit)) c e in
    let y = bind_some (time_in layout w.0.1) (λ y. edit_in (has_attributes layout) w.0.0 y.1 >>= λ edit. Some (stamped y.0 edit)) c w.2 in
    let z = bind_some (edit_in (has_attributes layout) w.0.0 y.0.1) (λ edit. Some (stamped y.0.0 edit)) c y.2 in
    let op = (num_exact 1).takes bytes w.0 fits w.1 in
    let time = time_takes layout w.0.1 y.0 op.0.rest_fits y.1 in
    let does = edit_takes (has_attributes layout) w.0.0 y.0.1 z.0 time.0.rest_fits z.1 in
    let front : little 1 w.0.0 ≡ op_of z.0 ∷ [] = ap (little 1) does.op_is ∙ little_one (op_of z.0) (op_small z.0) in
    let last : y.0.1 ≡ edit_bytes (is_some y.0.0) z.0 = does.bytes_are ∙ ap (λ (b : Bool). edit_bytes b z.0) (sym (timed layout y.0.0 time.1)) in
    let whole : bytes ≡ change_bytes (stamped y.0.0 z.0) = op.0.parts ∙ ap (λ (r : List ℕ). r ++ w.0.1) front
    ∙ ap (λ (r : List ℕ). op_of z.0 ∷ r) (time.0.parts ∙ ap (λ (r : List ℕ). time_bytes y.0.0 ++ r) last) in
    subst (Spelled layout bytes) (some_is (stamped y.0.0 z.0) c z.2) (record { bytes_are = whole; time = time.1; fields = does.fields; attributes = does.attributes })

object_again : (made : Made) → KeepsMadeLimits made → made_in (kind_of_made made) (permissions_of_made made) (text_bytes made) ≡ Some made
unfolding made_in
object_again (file permissions) limits = refl
object_again (directory permissions) limits = refl
object_again (symbolic_link permissions text) limits = made_again (counted_exact 2) (λ text. symbolic_link permissions text) text (omega (arith, limits.1.short))

kind_small : (made : Made) → kind_of_made made < 256
kind_small (file permissions) = omega arith
kind_small (directory permissions) = omega arith
kind_small (symbolic_link permissions text) = omega arith

edit_again : (has_attributes : Bool) (e : Edit) → KeepsEditLimits e → FitsEditFields e → FitsAttributes has_attributes e → edit_in has_attributes (op_of e) (edit_bytes has_attributes e) ≡ Some e
unfolding edit_in create_in link_in remove_name_in rename_in write_in truncate_in change_attributes_in set_file_in
edit_again has_attributes (create number parent made name) limits fields attributes =
    let p = permissions_of_made made in
    let named = name_bytes name ++ text_bytes made in
    let head = create_exact.again (number, (parent, kind_of_made made)) (permission_bytes has_attributes p ++ named) (fields.0, (fields.1, kind_small made)) in
    let given = permissions_again has_attributes p named (permissions_given has_attributes p epoch attributes) in
    let behind = (counted_exact 1).again name (text_bytes made) (omega (arith, limits.1.short)) in
    rw (head, given, behind, object_again made limits.0) refl
edit_again has_attributes (link number parent name) limits fields attributes = made_again link_exact (λ v. link v.0 v.1.0 v.1.1) (number, (parent, name)) fields
edit_again has_attributes (remove_name parent name) limits fields attributes = made_again remove_name_exact (λ v. remove_name v.0 v.1) (parent, name) fields
edit_again has_attributes (rename parent name new_parent new_name) limits fields attributes =
    made_again rename_exact (λ v. rename v.0 v.1.0 v.1.1.0 v.1.1.1) (parent, (name, (new_parent, new_name))) fields
edit_again has_attributes (write number offset bytes) limits fields attributes = made_again write_exact (λ v. write v.0 v.1.0 v.1.1) (number, (offset, bytes)) fields.0
edit_again has_attributes (truncate number size) limits fields attributes = made_again truncate_exact (λ v. truncate v.0 v.1) (number, size) fields
edit_again has_attributes (change_attributes number permissions modified) limits fields attributes =
    let time = modified_bytes has_attributes modified in
    let head = (num_exact 4).again number (permission_bytes has_attributes permissions ++ time) fields in
    let given = permissions_again has_attributes permissions time (permissions_given has_attributes permissions modified attributes) in
    let whole = ap (modified_read has_attributes) (sym (append-nil time)) ∙ modified_again has_attributes modified [] (modified_given has_attributes permissions modified attributes) in
    rw (head, given, whole) refl
edit_again has_attributes (set_file number mode size) limits fields attributes = made_again set_file_exact (λ v. set_file v.0 v.1.0 v.1.1) (number, (mode, size)) fields

time_in_again : (layout : Layout) (time : Option Time) (rest : List ℕ) → FitsTime (has_attributes layout) time → time_in layout (time_bytes time ++ rest) ≡ Some (time, rest)
unfolding time_in
time_in_again Plain None rest fits = refl
time_in_again Plain (Some time) rest fits = absurd fits
time_in_again Summed None rest fits = absurd fits
time_in_again Summed (Some time) rest fits = rw (time_read_again time rest fits) refl

pub change_again : (layout : Layout) (c : Change) → IsChange (has_attributes layout) c → change_in layout (change_bytes c) ≡ Some c
unfolding change_in
change_again layout c is =
    let b = has_attributes layout in
    let same : change_bytes c ≡ op_of c.edit ∷ (time_bytes c.time ++ edit_bytes b c.edit) =
    ap (λ (b : Bool). op_of c.edit ∷ (time_bytes c.time ++ edit_bytes b c.edit)) (timed layout c.time is.time) in
    ap (change_in layout) same
    ∙ rw (byte_again (op_of c.edit) (time_bytes c.time ++ edit_bytes b c.edit), time_in_again layout c.time (edit_bytes b c.edit) is.time, edit_again b c.edit is.limits is.fields is.attributes) refl

-- no bytes spell two records
pub change_injective : (layout : Layout) (c d : Change) → IsChange (has_attributes layout) c → IsChange (has_attributes layout) d → change_bytes c ≡ change_bytes d → c ≡ d
change_injective layout c d is_c is_d e = some_is c d (sym (change_again layout c is_c) ∙ ap (change_in layout) e ∙ change_again layout d is_d)
