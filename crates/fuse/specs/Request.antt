-- A request: a head, and what it asks.
use Rattle.std.specs.Prelude.{ℕ, ◌≡◌, List, ◌++◌, length}
use Rattle.fuse.specs.Bodies.{body}
use Rattle.fuse.specs.Head.{head, fields_of}
use Rattle.fuse.specs.Operation.{OperationValue, operation_of}
use Rattle.fuse.specs.declared.head.Head.{Head}
use Rattle.fuse.specs.declared.request.Request.{Request}

pub record RequestValue : Type 0 where
  pub head : Head
  pub operation : OperationValue

abbrev pub request_of : Request → RequestValue
request_of r = record { head = r.head; operation = operation_of r.operation }

-- The bytes are a spelling of the request: its head, four bytes of any kind, and a body that says
-- its operation. The length that the head tells is that of the bytes.
pub record IsRequest (bytes : List ℕ) (r : RequestValue) : Type 0 where
  pub extra : ℕ
  pub rest : List ℕ
  pub fits : head.Fits (fields_of r.head extra)
  pub bytes_are : bytes ≡ head.text (fields_of r.head extra) ++ rest
  pub length_is : r.head.length ≡ length bytes
  pub says : (body r.head.opcode).Says rest r.operation
