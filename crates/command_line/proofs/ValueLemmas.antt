-- How the texts of numbers are read.
use Rattle.std.proofs.Common.{◌≡◌, ◌≢◌, ℕ, ◌+◌, ◌-◌, [], ◌∷◌, ◌++◌, length, get_or, take, eqb, Bool, true, false, refl, sym, ap, arith, ◌∙◌, cond}
use Rattle.std.specs.Prelude.{Option, Some, None, Result, Ok, Err, codes, option_and_then, unwrap_or}
use Rattle.std.specs.Option.{option_map_or}
use Rattle.std.specs.Result.{result_ok}
use Rattle.std.specs.Str.{bytes_eq}
use Rattle.std.specs.Str.Parse.{ParsesUnsigned, ParsesBool, digits_value, without_leading_plus}
use Rattle.std.proofs.lemmas.Bool.{eqb-true, false_from_ne_true}
use Rattle.std.proofs.lemmas.List.{take_more}
use Rattle.std.proofs.lemmas.Slice.Eq.{bytes_eq-Decides}
use Rattle.std.proofs.Math.Seq.{take-length}
use Rattle.clap.proofs.ValueTestLemmas.{Accepts-accepts, accepts-Accepts}
use Rattle.clap.specs.ValueTests.{is_unsigned_in}
use Rattle.clap.specs.Words.{ReadsOne, Text}
use Rattle.clap.specs.declared.builder.value_parser.ValueParser.TheVariants.{Unsigned}
use Rattle.command_line.specs.Values.{digits_in, spelled_number}

-- ---- suffixes

not_last : (x : ℕ) (xs : Text) (c : ℕ) → ((front : Text) → x ∷ xs ≢ front ++ (c ∷ [])) → eqb (get_or (x ∷ xs) (length xs) 0) c ≡ false
not_last x xs c none = false_from_ne_true _ (λ t.
    none (take (length xs) (x ∷ xs))
    (sym (take-length (x ∷ xs)) ∙ ap (λ n. take n (x ∷ xs)) (length_is x xs)
    ∙ take_more (x ∷ xs) (length xs) 0 (omega (arith, length_is x xs)) ∙ ap (λ l. take (length xs) (x ∷ xs) ++ (l ∷ [])) (eqb-true _ _ t)))
  where
    length_is : (x : ℕ) (xs : Text) → length (x ∷ xs) ≡ length xs + 1
    length_is x xs = omega arith

pub no_suffix : (w : Text) → ((front : Text) → w ≢ front ++ (107 ∷ [])) → ((front : Text) → w ≢ front ++ (75 ∷ [])) → ((front : Text) → w ≢ front ++ (77 ∷ []))
    → ((front : Text) → w ≢ front ++ (71 ∷ [])) → w ≡ digits_in w
no_suffix [] k K M G = refl
no_suffix (x ∷ xs) k K M G =
    let at : length (x ∷ xs) - 1 ≡ length xs = omega arith in
    rw (at, not_last x xs 107 k, not_last x xs 75 K, not_last x xs 77 M, not_last x xs 71 G) refl

-- ---- numbers

module _ (E : Type 0) (text : Text) where
  pub number_ok : (n : ℕ) → ParsesUnsigned {E = E} 32 10 text (Ok n) → spelled_number text ≡ Some n
  number_ok n h =
      let test : is_unsigned_in 0 4294967295 text ≡ true = Accepts-accepts false (Unsigned 0 4294967295) text (h.0.0, omega arith, omega arith, omega arith) in
      rw test (ap Some (sym h.1))

  pub number_err : (e : E) → ParsesUnsigned {E = E} 32 10 text (Err e) → spelled_number text ≡ None
  number_err e h = go (is_unsigned_in 0 4294967295 text) refl
    where
      go : (b : Bool) → is_unsigned_in 0 4294967295 text ≡ b → cond b (Some (digits_value 10 (without_leading_plus text))) None ≡ None
      go false t = refl
      go true t =
          let fits = accepts-Accepts false (Unsigned 0 4294967295) text t in
          absurd (h (fits.0, omega arith))

-- what `get_one` reads of an option's text
pub number_read : {E : Type 0} (G : Text → Result ℕ E → Type 0) (o : Option Text) (r : Option ℕ) → ((t : Text) (x : Result ℕ E) → G t x → ParsesUnsigned 32 10 t x)
    → (o ≡ None → r ≡ None) → ((t : Text) → o ≡ Some t → ReadsOne G t r) → r ≡ option_and_then spelled_number o
number_read {E} G None r parses none value = none refl
number_read {E} G (Some t) (Some n) parses none value = sym (number_ok E t n (parses t (Ok n) (value t refl)))
number_read {E} G (Some t) None parses none value =
    let w = value t refl in
    sym (number_err E t w.0 (parses t (Err w.0) w.1))

abbrev is_true : Option Text → Bool
is_true o = option_map_or (λ t. bytes_eq t (codes "true")) o false

pub flag_read : (E : Type 0) (o : Option Text) (r : Option Bool) → (o ≡ None → r ≡ None) → ((t : Text) → o ≡ Some t → ReadsOne {E = E} ParsesBool t r) → unwrap_or r false ≡ is_true o
flag_read E None r none value = rw (none refl) refl
flag_read E (Some t) (Some true) none value = rw (value t refl) refl
flag_read E (Some t) (Some false) none value = rw (value t refl) refl
flag_read E (Some t) None none value = sym (false_from_ne_true _ (λ e. (value t refl).1.0 ((bytes_eq-Decides t (codes "true")).0 e)))

pub number_parsed : {E : Type 0} (t : Text) (r : Result ℕ E) → ParsesUnsigned 32 10 t r → result_ok r ≡ spelled_number t
number_parsed {E} t (Ok n) h = sym (number_ok E t n h)
number_parsed {E} t (Err e) h = sym (number_err E t e h)
