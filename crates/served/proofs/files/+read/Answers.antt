use Rattle.std.proofs.Common.{◌≡◌, ◌+◌, ◌-◌, ◌^◌, ◌++◌, ℕ, List, length, min, nat_lt, false, Some, to_z, of_z, w64, ap, subst, ◌∙◌, arith}
use Rattle.model.specs.declared.limits.TheConstants.{TRANSFER_BYTES}
use Rattle.served.proofs.FilesLaws.{Asks, enough_far, enough_there, passed, read_last, read_on, read_refused, read_unkept, reads_end, reads_enough}
use Rattle.served.proofs.TurnLaws.{came_as}
use Rattle.served.proofs.files.+read.Goals as goal
use Rattle.served.proofs.files.+read.Goals.{then-parts-eq0-via-then-parts-eq0, then-parts-eq0-via-else-parts-eq0+then-left-eq0}
use Rattle.served.specs.Files.{IsOffset, read_before, reading_of, reads}
use Rattle.served.specs.Turns.{Came}
use Rattle.served.specs.declared.answer.Answer.TheVariants as answer

pub returns-then-parts-eq0 : goal.returns-then-parts-eq0
returns-then-parts-eq0 g t c =
    let a = c.args in
    let read = reading_of a.place in
    let had = a.had.items in
    let count : c.len.result ≡ length had = omega (arith, c.len.ensures, a.had.ok.0) in
    came_as g.F.FileSystem a.files.now a.files.now (reads read a.offset a.count a.parts had) (answer.Bytes had) (answer.Bytes c.new.result) (ap answer.Bytes c.new.ensures)
    (elim c.then-parts-eq0.branch [
      | then-parts-eq0-via-then-parts-eq0 w ↦ reads_end g.F.FileSystem read a.offset a.count a.files.now a.parts had w.if-parts-eq0.true
      | then-parts-eq0-via-else-parts-eq0+then-left-eq0 w ↦ reads_enough g.F.FileSystem read a.offset a.count a.files.now a.parts had
          (enough_there a.offset a.count had (omega (arith, w.if-left-eq0.true, c.saturating_sub-left.ensures, count)))
    ])

pub returns-in_default : goal.returns-in_default
returns-in_default g t c =
    let a = c.args in
    let read = reading_of a.place in
    let had = a.had.items in
    let count : c.len.result ≡ length had = omega (arith, c.len.ensures, a.had.ok.0) in
    let again : c.len-2.result ≡ length had = omega (arith, c.len-2.ensures, a.had.ok.0) in
    came_as g.F.FileSystem a.files.now a.files.now (reads read a.offset a.count a.parts had) (answer.Bytes had) (answer.Bytes c.new-in_default.result) (ap answer.Bytes c.new-in_default.ensures)
    (reads_enough g.F.FileSystem read a.offset a.count a.files.now a.parts had
    (enough_far a.offset a.count had (omega (arith, c.if-left-eq0.false, c.saturating_sub-left.ensures, count))
    (subst (λ (n : ℕ). nat_lt (a.offset + n) (2 ^ 63) ≡ false) again c.in_default.ensures)))

pub returns-then-is_err : goal.returns-then-is_err
returns-then-is_err g t c =
    let a = c.args in
    let read = reading_of a.place in
    let had = a.had.items in
    let count : c.len.result ≡ length had = omega (arith, c.len.ensures, a.had.ok.0) in
    let again : c.len-2.result ≡ length had = omega (arith, c.len-2.ensures, a.had.ok.0) in
    let at = to_z w64 (of_z w64 c.in-Some.at) in
    let asked = c.min-asked.result in
    let on : Asks a.offset a.count a.parts had at asked = record {
      some_parts = omega (arith, c.if-parts-eq0.false);
      some_left = omega (arith, c.if-left-eq0.false, c.saturating_sub-left.ensures, count);
      low = passed (a.offset + length had) c.in-Some.at (subst (λ (n : ℕ). IsOffset (a.offset + n) (Some c.in-Some.at)) again c.in-Some.ensures);
      as_asked = c.min-asked.ensures ∙ ap (λ (n : ℕ). min n TRANSFER_BYTES) (c.saturating_sub-left.ensures ∙ ap (λ (n : ℕ). a.count - n) count);
    } in
    read_unkept g.F.FileSystem read a.offset a.count a.files.now c.read_part.new.files a.parts had at asked c.in-Ok.text on c.in-Ok.ensures

pub returns-then-part-asked : goal.returns-then-part-asked
returns-then-part-asked g t c =
    let a = c.args in
    let read = reading_of a.place in
    let had = a.had.items in
    let count : c.len.result ≡ length had = omega (arith, c.len.ensures, a.had.ok.0) in
    let again : c.len-2.result ≡ length had = omega (arith, c.len-2.ensures, a.had.ok.0) in
    let at = to_z w64 (of_z w64 c.in-Some.at) in
    let asked = c.min-asked.result in
    let on : Asks a.offset a.count a.parts had at asked = record {
      some_parts = omega (arith, c.if-parts-eq0.false);
      some_left = omega (arith, c.if-left-eq0.false, c.saturating_sub-left.ensures, count);
      low = passed (a.offset + length had) c.in-Some.at (subst (λ (n : ℕ). IsOffset (a.offset + n) (Some c.in-Some.at)) again c.in-Some.ensures);
      as_asked = c.min-asked.ensures ∙ ap (λ (n : ℕ). min n TRANSFER_BYTES) (c.saturating_sub-left.ensures ∙ ap (λ (n : ℕ). a.count - n) count);
    } in
    let part = c.as_bytes-part.ensures in
    let put = rw c.if-is_err.ensures.negation at c.extend_from_slice.ensures.items in
    let whole : c.extend_from_slice.new.self.items ≡ had ++ c.in-Ok.text = cc in
    came_as g.F.FileSystem a.files.now c.read_part.new.files (reads read a.offset a.count a.parts had) (answer.Bytes (had ++ c.in-Ok.text)) (answer.Bytes c.new-then-part-asked.result)
    (ap answer.Bytes (c.new-then-part-asked.ensures ∙ whole))
    (read_last g.F.FileSystem read a.offset a.count a.files.now c.read_part.new.files a.parts had at asked c.in-Ok.text on c.in-Ok.ensures
    (omega (arith, c.if-part-asked.true, ap (λ (l : List ℕ). length l) part)))

pub returns-else-part-asked : goal.returns-else-part-asked
returns-else-part-asked g t c =
    let a = c.args in
    let read = reading_of a.place in
    let had = a.had.items in
    let count : c.len.result ≡ length had = omega (arith, c.len.ensures, a.had.ok.0) in
    let again : c.len-2.result ≡ length had = omega (arith, c.len-2.ensures, a.had.ok.0) in
    let at = to_z w64 (of_z w64 c.in-Some.at) in
    let asked = c.min-asked.result in
    let on : Asks a.offset a.count a.parts had at asked = record {
      some_parts = omega (arith, c.if-parts-eq0.false);
      some_left = omega (arith, c.if-left-eq0.false, c.saturating_sub-left.ensures, count);
      low = passed (a.offset + length had) c.in-Some.at (subst (λ (n : ℕ). IsOffset (a.offset + n) (Some c.in-Some.at)) again c.in-Some.ensures);
      as_asked = c.min-asked.ensures ∙ ap (λ (n : ℕ). min n TRANSFER_BYTES) (c.saturating_sub-left.ensures ∙ ap (λ (n : ℕ). a.count - n) count);
    } in
    let part = c.as_bytes-part.ensures in
    let put = rw c.if-is_err.ensures.negation at c.extend_from_slice.ensures.items in
    let whole : c.extend_from_slice.new.self.items ≡ had ++ c.in-Ok.text = cc in
    read_on g.F.FileSystem read a.offset a.count a.files.now c.read_part.new.files c.read.new.files a.parts had at asked c.in-Ok.text c.read.result on c.in-Ok.ensures
    (omega (arith, c.if-part-asked.false, ap (λ (l : List ℕ). length l) part))
    (subst (λ (l : List ℕ). Came g.F.FileSystem c.read_part.new.files c.read.new.files (reads read a.offset a.count (a.parts - 1) l) c.read.result) whole c.read.ensures)

pub returns-in-Err : goal.returns-in-Err
returns-in-Err g t c =
    let a = c.args in
    let read = reading_of a.place in
    let had = a.had.items in
    let count : c.len.result ≡ length had = omega (arith, c.len.ensures, a.had.ok.0) in
    let again : c.len-2.result ≡ length had = omega (arith, c.len-2.ensures, a.had.ok.0) in
    let at = to_z w64 (of_z w64 c.in-Some.at) in
    let asked = c.min-asked.result in
    let on : Asks a.offset a.count a.parts had at asked = record {
      some_parts = omega (arith, c.if-parts-eq0.false);
      some_left = omega (arith, c.if-left-eq0.false, c.saturating_sub-left.ensures, count);
      low = passed (a.offset + length had) c.in-Some.at (subst (λ (n : ℕ). IsOffset (a.offset + n) (Some c.in-Some.at)) again c.in-Some.ensures);
      as_asked = c.min-asked.ensures ∙ ap (λ (n : ℕ). min n TRANSFER_BYTES) (c.saturating_sub-left.ensures ∙ ap (λ (n : ℕ). a.count - n) count);
    } in
    came_as g.F.FileSystem a.files.now c.read_part.new.files (reads read a.offset a.count a.parts had) (read_before had c.in-Err.errno) c.read_before.result c.read_before.ensures
    (read_refused g.F.FileSystem read a.offset a.count a.files.now c.read_part.new.files a.parts had at asked c.in-Err.errno on c.in-Err.ensures)
