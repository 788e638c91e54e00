-- What the reading of a whole trace answers.
use Rattle.std.specs.Prelude.{ℕ, ◌≡◌, ◌⊎◌, List, Result, Err}
use Rattle.iova_line.specs.declared.trace.Trace.{Trace}
use Rattle.iova_trace.specs.declared.fault.ReplayFault.{ReplayFault}
use Rattle.iova_trace.specs.declared.fault.ReplayFault.TheVariants as fault
use Rattle.iova_trace.specs.Lines.{IsRefused}

-- what each fault says of the text
abbrev pub IsFaultOf : List ℕ → ReplayFault → Type 0
IsFaultOf text (fault.BadTrace number) = IsRefused text number
IsFaultOf text fault.NoMemory = Unit {0}
IsFaultOf text fault.ReadFault = ⊥
IsFaultOf text fault.WriteFault = ⊥

-- this is the answer, unless memory was refused
abbrev pub IsUnlessOutOfMemory : Result Trace ReplayFault → Result Trace ReplayFault → Type 0
IsUnlessOutOfMemory answer result = (result ≡ answer) ⊎ (result ≡ Err fault.NoMemory)
