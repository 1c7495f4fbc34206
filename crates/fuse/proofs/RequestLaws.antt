-- Requests: what is read is spelled so, and what is spelled so is read.
use Rattle.std.proofs.Common.{◌≡◌, ℕ, List, length, Option, Some, sym, ap, ◌∙◌}
use Rattle.layout.specs.Bytes.{IsBytes}
use Rattle.layout.proofs.Formats.{IsExact, num_exact, then_exact, some_is}
use Rattle.fuse.specs.Bodies.{body}
use Rattle.fuse.specs.Head.{head, fields_of}
use Rattle.fuse.specs.Operation.{OperationValue}
use Rattle.fuse.specs.Request.{RequestValue, IsRequest}
use Rattle.fuse.specs.declared.head.Head.{Head}
use Rattle.fuse.proofs.BodyLaws.{body_exact}

head_exact : IsExact head
head_exact = then_exact (num_exact 4) (then_exact (num_exact 4) (then_exact (num_exact 8) (then_exact (num_exact 8) (then_exact (num_exact 4) (then_exact (num_exact 4) (then_exact (num_exact 4) (num_exact 4)))))))

-- a head, four bytes and the bytes behind them were read
abbrev Reads : List ℕ → Head → ℕ → List ℕ → Type 0
Reads bytes h extra rest = Some (fields_of h extra, rest) ≡ head.at bytes

pub request_found : (bytes : List ℕ) (h : Head) (extra : ℕ) (rest : List ℕ) (operation : OperationValue) → IsBytes bytes
    → Reads bytes h extra rest → h.length ≡ length bytes → (body h.opcode).read rest ≡ Some operation
    → IsRequest bytes (record { head = h; operation = operation })
request_found bytes h extra rest operation ok front whole behind =
    let t = head_exact.takes bytes (fields_of h extra, rest) ok (sym front) in
    record {
      extra = extra;
      rest = rest;
      fits = t.1;
      bytes_are = t.0.parts;
      length_is = whole;
      says = (body_exact h.opcode).says rest operation t.0.rest_fits behind;
    }

pub request_head : (bytes : List ℕ) (r : RequestValue) (is : IsRequest bytes r) → Reads bytes r.head is.extra is.rest
request_head bytes r is = sym (ap head.at is.bytes_are ∙ head_exact.again (fields_of r.head is.extra) is.rest is.fits)

pub request_body : (bytes : List ℕ) (r : RequestValue) (is : IsRequest bytes r) → (body r.head.opcode).read is.rest ≡ Some r.operation
request_body bytes r is = (body_exact r.head.opcode).again is.rest r.operation is.says

-- two heads that were read from the same bytes are the same, and so are the bytes behind them
pub record AreSame (h : Head) (rest : List ℕ) (other : Head) (others : List ℕ) : Type 0 where
  pub head_is : h ≡ other
  pub rest_is : rest ≡ others

pub same_head : (bytes : List ℕ) (h : Head) (extra : ℕ) (rest : List ℕ) (r : RequestValue) → Reads bytes h extra rest → (is : IsRequest bytes r) → AreSame h rest r.head is.rest
same_head bytes h extra rest r front is =
    let same = some_is (fields_of h extra, rest) (fields_of r.head is.extra, is.rest) (front ∙ sym (request_head bytes r is)) in
    record {
      head_is = λ i. record {
        length = (same i).0.0;
        opcode = (same i).0.1.0;
        unique = (same i).0.1.1.0;
        node = (same i).0.1.1.1.0;
        uid = (same i).0.1.1.1.1.0;
        gid = (same i).0.1.1.1.1.1.0;
        pid = (same i).0.1.1.1.1.1.1.0;
      };
      rest_is = λ i. (same i).1;
    }

-- what is asked behind the head is what was read
pub same_request : (bytes : List ℕ) (h : Head) (extra : ℕ) (rest : List ℕ) (result : Option OperationValue) (r : RequestValue)
    → Reads bytes h extra rest → result ≡ (body h.opcode).read rest → (is : IsRequest bytes r) → (h ≡ r.head) × (result ≡ Some r.operation)
same_request bytes h extra rest result r front behind is =
    let same = same_head bytes h extra rest r front is in
    (same.head_is, behind ∙ (λ i. (body (same.head_is i).opcode).read (same.rest_is i)) ∙ request_body bytes r is)
