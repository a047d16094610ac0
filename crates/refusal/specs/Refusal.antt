-- Document 01, 'Refusal numbers'. 0 is success; 16 is given by programs that read lines, and by no call.
use Rattle.std.specs.Prelude.{ℕ}
use Rattle.refusal.specs.declared.Refusal.{Refusal}
use Rattle.refusal.specs.declared.Refusal.TheVariants.{
  InvalidArgs,
  AccessDenied,
  NoMemory,
  NotFound,
  BadState,
  NotMapped,
  AlreadyMapped,
  NoFrames,
  NothingThere,
  NoSlot,
  BadHandle,
  BadSpace,
  BadTable,
  ChildDead,
  BadAddress,
}

abbrev pub number_of : Refusal → ℕ
number_of InvalidArgs = 1
number_of AccessDenied = 2
number_of NoMemory = 3
number_of NotFound = 4
number_of BadState = 5
number_of NotMapped = 6
number_of AlreadyMapped = 7
number_of NoFrames = 8
number_of NothingThere = 9
number_of NoSlot = 10
number_of BadHandle = 11
number_of BadSpace = 12
number_of BadTable = 13
number_of ChildDead = 14
number_of BadAddress = 15
