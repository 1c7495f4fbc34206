-- How the words are read that say how long is waited.
use Rattle.std.proofs.Common.{◌≡◌, ◌∙◌, ◌++◌, ◌+◌, ◌<◌, ℕ, List, [], ◌∷◌, true, false, add-one, ap, append_assoc, append-nil, arith, cond, drop, drop-cons, get_or, length, map, suc, sym, Bor}
use Rattle.std.proofs.Math.ListN.{get_or-map}
use Rattle.std.proofs.lemmas.List.{length-map}
use Rattle.std.specs.Prelude.{Option, Some}
use Rattle.clap.specs.Words.{Text}
use Rattle.command_line.specs.Waiting.{as_read, others_in, says_wait, stand_after, wait_in}
use Rattle.command_line.specs.declared.waiting.Stand.{Stand}

abbrev pub text_of : Bor Text → Text
text_of w = w.now

-- the words from the i-th on
pub words_from : (ws : List (Bor Text)) (i : ℕ) (d : Bor Text) → i < length ws
    → drop i (map (λ w. w.now) ws) ≡ (get_or ws i d).now ∷ drop (i + 1) (map (λ w. w.now) ws)
words_from ws i d within =
    let bound : i < length (map text_of ws) = omega (arith, length-map ws text_of, within) in
    drop-cons (map text_of ws) i d.now bound ∙ ap (λ t. t ∷ drop (suc i) (map text_of ws)) (get_or-map text_of ws i d)
    ∙ ap (λ n. (get_or ws i d).now ∷ drop n (map text_of ws)) (sym (add-one i))

module _ (s : Stand) (w : Text) (ws behind : List Text) (at : ws ≡ w ∷ behind) where
  -- a word that says how long is waited
  pub others_past : (front all : List Text) → says_wait s w ≡ true → front ++ others_in s ws ≡ all → front ++ others_in (stand_after s w) behind ≡ all
  unfolding others_in
  others_past front all is before =
      let next = others_in (stand_after s w) behind in
      ap (λ l. front ++ l) (sym (ap (λ b. cond b next (as_read s w ∷ next)) is)) ∙ ap (λ l. front ++ others_in s l) (sym at) ∙ before

  pub wait_past : (last all : Option Text) → says_wait s w ≡ true → wait_in last s ws ≡ all → wait_in (Some w) (stand_after s w) behind ≡ all
  unfolding wait_in
  wait_past last all is before =
      sym (ap (λ b. wait_in (cond b (Some w) last) (stand_after s w) behind) is) ∙ ap (λ l. wait_in last s l) (sym at) ∙ before

  -- another word
  pub others_with : (front all : List Text) → says_wait s w ≡ false → front ++ others_in s ws ≡ all
      → (front ++ as_read s w ∷ []) ++ others_in (stand_after s w) behind ≡ all
  unfolding others_in
  others_with front all is before =
      let next = others_in (stand_after s w) behind in
      append_assoc front (as_read s w ∷ []) next ∙ ap (λ l. front ++ l) (sym (ap (λ b. cond b next (as_read s w ∷ next)) is))
      ∙ ap (λ l. front ++ others_in s l) (sym at) ∙ before

  pub wait_before : (last all : Option Text) → says_wait s w ≡ false → wait_in last s ws ≡ all → wait_in last (stand_after s w) behind ≡ all
  unfolding wait_in
  wait_before last all is before =
      sym (ap (λ b. wait_in (cond b (Some w) last) (stand_after s w) behind) is) ∙ ap (λ l. wait_in last s l) (sym at) ∙ before

-- behind the last word
pub others_end : (s : Stand) (ws : List Text) (front all : List Text) → ws ≡ [] → front ++ others_in s ws ≡ all → front ≡ all
unfolding others_in
others_end s ws front all at before =
    sym (append-nil front) ∙ ap (λ l. front ++ others_in s l) (sym at) ∙ before

pub wait_end : (s : Stand) (ws : List Text) (last all : Option Text) → ws ≡ [] → wait_in last s ws ≡ all → last ≡ all
unfolding wait_in
wait_end s ws last all at before = ap (λ l. wait_in last s l) (sym at) ∙ before
