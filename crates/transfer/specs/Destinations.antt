-- Which questions write a file.
use Rattle.std.specs.Prelude.{Bool, true, false}
use Rattle.inputs.specs.declared.command.Question.{Question}
use Rattle.inputs.specs.declared.command.Question.TheVariants.{Read, Show, Dump, Sheet, Write, Rewrite}

-- Whether a question writes a file, and whether that may not be the file that is read.
unfoldable pub writes : Question → Bool
writes (Read field item) = false
writes Show = false
writes Dump = false
writes Sheet = true
writes Write = true
writes Rewrite = true

unfoldable pub spares_input : Question → Bool
spares_input (Read field item) = false
spares_input Show = false
spares_input Dump = false
spares_input Sheet = true
spares_input Write = true
spares_input Rewrite = false
