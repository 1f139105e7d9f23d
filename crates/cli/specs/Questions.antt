-- What the command itself works out of a question.
use Rattle.std.specs.Prelude.{ℕ, Option, Some, None}
use Rattle.inputs.specs.declared.command.Question.{Question}
use Rattle.inputs.specs.declared.command.Question.TheVariants.{Read, Show, Dump, Sheet, Write, Rewrite}
use Rattle.inputs.specs.declared.command.StoreQuestion.{StoreQuestion}
use Rattle.inputs.specs.declared.command.StoreQuestion.TheVariants.{List as Listed, Get, Add}

-- How much room the input takes: one byte more than a sheet or a message may have.
unfoldable pub room_of : Question → ℕ
room_of (Read field item) = 65537
room_of Show = 65537
room_of Dump = 65537
room_of Sheet = 65537
room_of Write = 1048577
room_of Rewrite = 65537

-- With no options it is customer 0 of an empty store, who has no settings.
unfoldable pub customer_of : Option ℕ → ℕ
customer_of None = 0
customer_of (Some customer) = customer

-- Which plain argument names the store.
unfoldable pub store_at : StoreQuestion → ℕ
store_at Listed = 2
store_at (Get customer version) = 3
store_at (Add customer version ignored) = 3
