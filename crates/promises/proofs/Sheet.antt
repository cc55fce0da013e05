-- Document 01, "Bench sheet": one computed test plays every case by the calls' own contracts and compares; another compares the whole table and area
-- with the paper's batch. Assumes nothing.
use mathlib.Core.Path.{◌≡◌, refl}
use mathlib.Core.List.{map}
use Rattle.promises.specs.Opened.{opened}
use Rattle.promises.specs.Sheet.{result_in, each_of, by_the_calls, by_the_paper, sheet, heater_sheet}

-- every case comes out as it should
pub bench_sheet : map (λ c. result_in c.batch (by_the_calls c)) sheet ≡ map (λ c. c.expected) sheet
unfolding opened each_of
bench_sheet = refl

-- and the whole table and work area are the paper's, word for word
pub bench_sheet_by_the_paper : map by_the_calls sheet ≡ map by_the_paper sheet
unfolding opened each_of
bench_sheet_by_the_paper = refl

-- the same of guarded cells
pub heater_sheet_lem : map (λ c. result_in c.batch (by_the_calls c)) heater_sheet ≡ map (λ c. c.expected) heater_sheet
unfolding opened each_of
heater_sheet_lem = refl

pub heater_sheet_by_the_paper : map by_the_calls heater_sheet ≡ map by_the_paper heater_sheet
unfolding opened each_of
heater_sheet_by_the_paper = refl
