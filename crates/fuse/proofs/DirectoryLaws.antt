-- How long entries are in a listing.
use Rattle.std.proofs.Common.{◌≡◌, ℕ, ◌+◌, List, ◌++◌, length, cond, is_ok, Result, Ok, Err, OnOk, OnErr, ap, ◌∙◌, append_assoc, arith}
use Rattle.std.proofs.lemmas.List.{length-append}
use Rattle.layout.proofs.NumberLaws.{length-little}
use Rattle.layout.proofs.ZeroLaws.{length-zeros}
use Rattle.fuse.specs.Attributes.{attributes_text, entry_text}
use Rattle.fuse.specs.Directory.{ListedValue, padding, listed_head_text, listed_text, listed_plus_text}
use Rattle.fuse.specs.declared.attributes.Attributes.{Attributes}
use Rattle.fuse.specs.declared.attributes.Entry.{Entry}

pub length-listed_head_text : (l : ListedValue) → length (listed_head_text l) ≡ 24
unfolding listed_head_text
length-listed_head_text l = simp (length-append, length-little) (omega arith)

pub length-listed_text : (l : ListedValue) → length (listed_text l) ≡ 24 + length l.name + padding (length l.name)
unfolding listed_text
length-listed_text l = simp (length-append, length-listed_head_text, length-zeros) (omega arith)

length-attributes_text : (a : Attributes) → length (attributes_text a) ≡ 88
unfolding attributes_text
length-attributes_text a = simp (length-append, length-little) (omega arith)

length-entry_text : (e : Entry) → length (entry_text e) ≡ 128
unfolding entry_text
length-entry_text e = simp (length-append, length-little, length-attributes_text) (omega arith)

pub length-listed_plus_text : (e : Entry) (l : ListedValue) → length (listed_plus_text e l) ≡ 128 + length (listed_text l)
unfolding listed_plus_text
length-listed_plus_text e l = simp (length-append, length-entry_text) (omega arith)

pub on_err : {T E P : Type 0} (r : Result T E) → P → OnErr r P
on_err (Ok x) p = tt
on_err (Err x) p = p

-- a text was written by three parts
pub wrote_three : {T E : Type 0} (r : Result T E) (old one two new a b c : List ℕ) → one ≡ old ++ a → two ≡ one ++ b → new ≡ cond (is_ok r) (two ++ c) two
    → OnOk r (new ≡ old ++ (a ++ b ++ c))
wrote_three (Ok x) old one two new a b c first second third =
    third ∙ ap (λ (l : List ℕ). l ++ c) (second ∙ ap (λ (l : List ℕ). l ++ b) first ∙ append_assoc old a b) ∙ append_assoc old (a ++ b) c
wrote_three (Err x) old one two new a b c first second third = tt
