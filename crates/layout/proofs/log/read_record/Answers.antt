use Rattle.std.proofs.Common.{◌≡◌, ◌∷◌, ◌++◌, ℕ, List, sym, ◌∙◌, subst, arith, take-append-drop}
use Rattle.layout.specs.Log.{HoldsBodies}
use Rattle.layout.proofs.LogLemmas.{cut_short, body_short}
use Rattle.layout.proofs.log.read_record.Goals as goal

pub returns-then-behind-lt-LENGTH_BYTES : goal.returns-then-behind-lt-LENGTH_BYTES
returns-then-behind-lt-LENGTH_BYTES c bodies holds = cut_short c.args.behind.now bodies (omega arith) holds

pub returns-then-length-behind : goal.returns-then-length-behind
returns-then-length-behind c bodies holds =
    let head = c.split_at.result.0.now in
    let rest = c.split_at.result.1.now in
    let whole : c.args.behind.now ≡ head ++ rest = sym (take-append-drop 4 c.args.behind.now) ∙ (λ i. sym c.split_at.ensures.front i ++ sym c.split_at.ensures.back i) in
    body_short head rest bodies c.split_at.ensures.front_len (omega arith) (subst (λ (l : List ℕ). HoldsBodies (1 ∷ l) bodies) whole holds)
