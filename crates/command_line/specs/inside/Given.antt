-- What the words give for a name.
use Rattle.std.specs.Prelude.{ℕ, List, Option}
use Rattle.clap.specs.Words.{Text, first_of, found_of, rows_of}
use Rattle.clap.specs.declared.parser.matches.ArgMatches.{ArgMatches}

-- the text of the option or argument of this name, or none
abbrev pub given_for : ArgMatches → Text → Option (List ℕ)
given_for found name = first_of name (rows_of (found_of found))
