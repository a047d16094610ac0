-- The tests that the range calls make of their arguments: document 01, 'Refusal numbers'.
use Rattle.std.specs.Prelude.{ℕ, ◌+◌, ◌^◌, Bool, ◌&&◌, leb, ltb, Result, Ok, Err}
use Rattle.paging.specs.Choice.{pick}
use Rattle.common.specs.Page.{aligned}
use Rattle.common.specs.declared.vm.PageSize.TheVariants.{Size4K}
use Rattle.refusal.specs.declared.Refusal.{Refusal}
use Rattle.refusal.specs.declared.Refusal.TheVariants.{InvalidArgs, BadAddress}
use Rattle.page_table.specs.Calls.{in_rule}

-- where the part of the rule ends that v lies in: [0, 2^47) or [0xffff800000000000, 0xffffffffc0000000)
abbrev pub rule_end : ℕ → ℕ
rule_end v = pick (ltb v (2 ^ 47)) (2 ^ 47) 0xffffffffc0000000

-- "a whole range lies in" one of the two parts; "An empty range is tested by its start", and so is any other
abbrev pub range_in_rule : ℕ → ℕ → Bool
range_in_rule v n = in_rule v && leb (v + n) (rule_end v)

-- "A table range whose start or size is not a multiple of 4096 is 1."
abbrev pub page_aligned : ℕ → ℕ → Bool
page_aligned v n = aligned Size4K v && aligned Size4K n

-- both, in document 01's order: 15, then 1
abbrev pub range_tested : ℕ → ℕ → Result Unit Refusal
range_tested v n = pick (range_in_rule v n) (pick (page_aligned v n) (Ok tt) (Err InvalidArgs)) (Err BadAddress)

-- "A physical address plus its size above 2^52 is 1.", the address as it is given
abbrev pub physical_fits : ℕ → ℕ → Bool
physical_fits pa n = leb (pa + n) (2 ^ 52)
