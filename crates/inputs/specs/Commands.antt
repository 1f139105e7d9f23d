-- What the words and numbers of the arguments ask for. What asks for nothing is None.
use Rattle.std.specs.Prelude.{Bool, true, false, cond, ◌&&◌, ◌||◌, List, ◌++◌, ℕ, ◌+◌, leb, ltb, eqb, Option, Some, None, Result, Ok, Err}
use Rattle.wire.specs.Bytes.{same}
use Rattle.inputs.specs.Words.{HYPHENS, SETTINGS, CUSTOMER}
use Rattle.inputs.specs.Numbers.{short_of}
use Rattle.inputs.specs.declared.words.Word.{Word}
use Rattle.inputs.specs.declared.words.Word.TheVariants as word
use Rattle.inputs.specs.declared.command.Question.{Question}
use Rattle.inputs.specs.declared.command.Question.TheVariants.{Read, Show, Dump, Sheet, Write, Rewrite}
use Rattle.inputs.specs.declared.store_command.Ignored.{Ignored}
use Rattle.inputs.specs.declared.command.StoreQuestion.TheVariants.{List as Listing, Get, Add}
use Rattle.inputs.specs.declared.command.Command.{Command}
use Rattle.inputs.specs.declared.command.Command.TheVariants.{Help, Version, Faults, Fault, CheckTable, Check, Tape, ListTable, Message, Store, NewStore}
use Rattle.inputs.specs.declared.complaints.Complained.{Complained}

-- HOW MANY
-- The number of the last plain argument that a command must have, and of the last that it may have. The command's word is plain argument 1.

abbrev pub least_of : Word → ℕ
least_of word.Help = 1
least_of word.Version = 1
least_of word.Faults = 1
least_of word.Check = 2
least_of word.Read = 4
least_of word.Show = 3
least_of word.Dump = 3
least_of word.Tape = 3
least_of word.Table = 2
least_of word.Sheet = 4
least_of word.Write = 4
least_of word.Rewrite = 4
least_of word.Settings = 2
least_of word.Get = 5
least_of word.Add = 5
least_of word.New = 4
least_of word.Other = 1

abbrev pub most_of : Word → ℕ
most_of word.Help = 18446744073709551615
most_of word.Version = 1
most_of word.Faults = 2
most_of word.Check = 18446744073709551615
most_of word.Read = 5
most_of word.Show = 3
most_of word.Dump = 3
most_of word.Tape = 3
most_of word.Table = 2
most_of word.Sheet = 4
most_of word.Write = 4
most_of word.Rewrite = 4
most_of word.Settings = 2
most_of word.Get = 5
most_of word.Add = 8
most_of word.New = 4
most_of word.Other = 18446744073709551615

-- ON MESSAGES

unfoldable pub fault_of : Option ℕ → Option Command
fault_of (Some n) = cond (leb n 255) (Some (Fault n)) None
fault_of None = None

unfoldable pub faults_of : ℕ → Option ℕ → Option Command
faults_of last number = cond (ltb last 2) (Some Faults) (fault_of number)

-- A table alone, or with messages.
unfoldable pub check_of : ℕ → Command
check_of last = cond (ltb last 3) CheckTable Check

abbrev pub reading_of : Option ℕ → Option ℕ → Option Command
reading_of (Some field) (Some item) = Some (Message (Read field item))
reading_of (Some field) None = None
reading_of None item = None

-- The first item, where none is named.
unfoldable pub read_of : ℕ → Option ℕ → Option ℕ → Option Command
read_of last field item = reading_of field (cond (ltb last 5) (Some 0) item)

-- ON A SETTINGS STORE

abbrev pub getting : Option ℕ → Option ℕ → Option Command
getting (Some customer) (Some version) = Some (Store (Get customer version))
getting (Some customer) None = None
getting None version = None

abbrev pub get_of : Option ℕ → Option ℕ → Option Command
get_of customer version = getting (short_of customer) (short_of version)

-- The faults to ignore are the arguments behind the version, argument 5. The flags say which were found.
unfoldable pub ignored_of : ℕ → Ignored → Option Ignored
ignored_of last found = cond (eqb (5 + (found.absent + found.pads + found.unused)) last) (Some found) None

abbrev pub adding : Option ℕ → Option ℕ → Ignored → Option Command
adding (Some customer) (Some version) ignored = Some (Store (Add customer version ignored))
adding (Some customer) None ignored = None
adding None version ignored = None

abbrev pub add_of : Option ℕ → Option ℕ → Option Ignored → Option Command
add_of customer version (Some ignored) = adding (short_of customer) (short_of version) ignored
add_of customer version None = None

-- A store of 65536 bytes has room for 7281 records.
unfoldable pub making : ℕ → Option Command
making records = cond (leb 1 records && leb records 7281) (Some (NewStore records)) None

abbrev pub making_of : Option ℕ → Option Command
making_of (Some records) = making records
making_of None = None

-- ALL OF THEM
-- By the word, the number of the last plain argument, and plain arguments 2, 4 and 5 as numbers.

abbrev pub asked_of : Word → ℕ → Option ℕ → Option ℕ → Option ℕ → Option Ignored → Option Command
asked_of word.Help last second fourth fifth ignored = Some Help
asked_of word.Version last second fourth fifth ignored = Some Version
asked_of word.Faults last second fourth fifth ignored = faults_of last second
asked_of word.Check last second fourth fifth ignored = Some (check_of last)
asked_of word.Read last second fourth fifth ignored = read_of last fourth fifth
asked_of word.Show last second fourth fifth ignored = Some (Message Show)
asked_of word.Dump last second fourth fifth ignored = Some (Message Dump)
asked_of word.Tape last second fourth fifth ignored = Some Tape
asked_of word.Table last second fourth fifth ignored = Some ListTable
asked_of word.Sheet last second fourth fifth ignored = Some (Message Sheet)
asked_of word.Write last second fourth fifth ignored = Some (Message Write)
asked_of word.Rewrite last second fourth fifth ignored = Some (Message Rewrite)
asked_of word.Settings last second fourth fifth ignored = Some (Store Listing)
asked_of word.Get last second fourth fifth ignored = get_of fourth fifth
asked_of word.Add last second fourth fifth ignored = add_of fourth fifth ignored
asked_of word.New last second fourth fifth ignored = making_of fourth
asked_of word.Other last second fourth fifth ignored = None

-- Too few or too many ask for nothing.
unfoldable pub command_of : Word → ℕ → Option ℕ → Option ℕ → Option ℕ → Option Ignored → Option Command
command_of w last second fourth fifth ignored =
    cond (ltb last (least_of w) || ltb (most_of w) last) None (asked_of w last second fourth fifth ignored)

-- OPTIONS

abbrev pub is_known : List ℕ → Bool
is_known option = same option (HYPHENS ++ SETTINGS) || same option (HYPHENS ++ CUSTOMER)

-- What the customer that is given makes of the options.
abbrev pub options_of : Option ℕ → Result (Option ℕ) Complained
options_of (Some customer) = Ok (Some customer)
options_of None = Err (record {})

-- A question about a message takes them. A sheet has no byte to ignore.
abbrev pub takes_question : Question → Bool
takes_question (Read field item) = true
takes_question Show = true
takes_question Dump = true
takes_question Sheet = true
takes_question Write = false
takes_question Rewrite = true

abbrev pub takes_settings : Command → Bool
takes_settings Help = false
takes_settings Version = false
takes_settings Faults = false
takes_settings (Fault number) = false
takes_settings CheckTable = false
takes_settings Check = true
takes_settings Tape = true
takes_settings ListTable = false
takes_settings (Message question) = takes_question question
takes_settings (Store question) = false
takes_settings (NewStore records) = false

abbrev pub agree : Command → Option ℕ → Bool
agree command None = true
agree command (Some customer) = takes_settings command
