-- The loop's invariant: the bytes passed stand there as they are shown. Assumes nothing.
use Rattle.std.proofs.Common.{map, take}
use Rattle.text.specs.Paper.{Put}
use Rattle.arguments.specs.Words.{shown_byte}
use Rattle.arguments.proofs.put_shown_bytes.Given as goal

abbrev pub invariant-loop-byte : goal.invariant-loop-byte
invariant-loop-byte l = Put l.fn.page (map shown_byte (take l.byte-index l.word)) l.page
