-- No words are a faulty command line.
use Rattle.std.proofs.Common.{◌≡◌, [], Err, refl}
use Rattle.clap.specs.Faults.{defaults_fault, walk_fault}
use Rattle.command_line.specs.Syntax.{program}
use Rattle.command_line.specs.Words.{command_of}
use Rattle.command_line.specs.declared.fault.WordsFault.TheVariants.{Usage}

pub no_words : command_of [] ≡ Err Usage
unfolding command_of program walk_fault defaults_fault
no_words = refl
