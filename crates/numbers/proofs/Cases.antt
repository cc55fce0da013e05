-- Document 01, "What each refusal says", and document 02, ask 3, tried by computation on the structs that carry an answer's numbers: each stands
-- under its own name. Assumes nothing.
use mathlib.Core.Path.{refl}
use Rattle.std.specs.Prelude.{Ok, Err}
use Rattle.image.specs.declared.refusals.Refusal.TheVariants.{State, NoOrder, Reason}
use Rattle.image.specs.Refusals.{refusing, refusing_at, numbers_of_count}
use Rattle.machine.specs.declared.Run.TheVariants.{Rejected}
use Rattle.steps.specs.declared.Reason.TheVariants.{RawWithWar}
use Rattle.steps.specs.declared.Settled.TheVariants.{Carried}
use Rattle.steps.specs.Answers.{numbers_of_gathered, numbers_of_settled}
use Rattle.causes.specs.declared.answers.Why.TheVariants as why
use Rattle.causes.specs.Why.{numbers_of_why}
use Rattle.numbers.specs.Numbers.{Tells, CauseTells, CountTells, refused_as, ended_as, fault_as, no_reason_as}

-- "When done, gathering and settling return the slot's state and detail": rejected with 7; carried for 3
done_tells : Tells (numbers_of_gathered (Ok (Rejected 7))) (record { refusal = refusing 0; state = 2; detail = 7 })
    × Tells (numbers_of_settled (Ok (Carried RawWithWar))) (record { refusal = refusing 0; state = 5; detail = 3 })
done_tells = (record { refusal = refl; state = refl; detail = refl }, record { refusal = refl; state = refl; detail = refl })

-- "A refusal returns its number, 0 for every other result"
refused_tells : Tells (numbers_of_gathered (Err State)) (record { refusal = refusing 9; state = 0; detail = 0 })
    × Tells (numbers_of_settled (Err State)) (record { refusal = refusing 9; state = 0; detail = 0 })
refused_tells = (record { refusal = refl; state = refl; detail = refl }, record { refusal = refl; state = refl; detail = refl })

-- by its numbers, also those that no refusal and no run of this library has: a refusal with its place; a state and a detail; a fault of kind 7 at instruction 3
by_numbers_tells : Tells (refused_as (refusing_at 77 5 6)) (record { refusal = refusing_at 77 5 6; state = 0; detail = 0 })
    × Tells (ended_as (record { state = 9; detail = 4294967295 })) (record { refusal = refusing 0; state = 9; detail = 4294967295 })
    × Tells (fault_as (record { kind = 7; at = 3 })) (record { refusal = refusing 0; state = 3; detail = 1795 })
    × CauseTells (no_reason_as (refusing_at 77 5 6))
    (record { refusal = refusing_at 77 5 6; reason = 0; cell = 0; program = 0; war_cell = 0; war_program = 0 })
by_numbers_tells = (
  record { refusal = refl; state = refl; detail = refl },
  record { refusal = refl; state = refl; detail = refl },
  record { refusal = refl; state = refl; detail = refl },
  record { refusal = refl; reason = refl; cell = refl; program = refl; war_cell = refl; war_program = refl },
)

-- "for reason 3 one such pair for RAW and one for WAR"; reason 1 leaves the second pair 0; a refusal leaves all of them 0
why_tells :
    CauseTells (numbers_of_why (Ok (why.RawWithWar (record { cell = 9; program = 5 }) (record { cell = 6; program = 2 }))))
    (record { refusal = refusing 0; reason = 3; cell = 9; program = 5; war_cell = 6; war_program = 2 })
    × CauseTells (numbers_of_why (Ok (why.Waw (record { cell = 7; program = 3 }))))
    (record { refusal = refusing 0; reason = 1; cell = 7; program = 3; war_cell = 0; war_program = 0 })
    × CauseTells (numbers_of_why (Err Reason))
    (record { refusal = refusing 15; reason = 0; cell = 0; program = 0; war_cell = 0; war_program = 0 })
why_tells = (
  record { refusal = refl; reason = refl; cell = refl; program = refl; war_cell = refl; war_program = refl },
  record { refusal = refl; reason = refl; cell = refl; program = refl; war_cell = refl; war_program = refl },
  record { refusal = refl; reason = refl; cell = refl; program = refl; war_cell = refl; war_program = refl },
)

-- "the order its count, the next image its length. A refusal returns its number, 0 for every other result"
count_tells : CountTells (numbers_of_count (Ok 8326)) (record { refusal = refusing 0; count = 8326 })
    × CountTells (numbers_of_count (Err NoOrder)) (record { refusal = refusing 12; count = 0 })
count_tells = (record { refusal = refl; count = refl }, record { refusal = refl; count = refl })
