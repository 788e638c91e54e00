-- What a fault of the program says on standard error, and the status that it ends with.
use Rattle.std.specs.Prelude.{ℕ, zero, suc, ◌≡◌, Bool, true, false, List, [], ◌++◌, Option, Some, None, decimal, codes}
use Rattle.std.specs.Borrow.{Bor}
use Rattle.iova_command.specs.declared.usage.WordsFault.{WordsFault}
use Rattle.iova_command.specs.declared.usage.WordsFault.TheVariants as words
use Rattle.iova_trace.specs.declared.fault.ReplayFault.{ReplayFault}
use Rattle.iova_trace.specs.declared.fault.ReplayFault.TheVariants as replay
use Rattle.iova_tools.specs.declared.fault.Left.{Left}
use Rattle.iova_tools.specs.declared.fault.Fault.{Fault}
use Rattle.iova_tools.specs.declared.fault.Fault.TheVariants as fault

-- the frames in rings, where there are any
abbrev pub rings_text : ℕ → List ℕ
rings_text zero = []
rings_text (suc n) = codes ", and " ++ decimal (suc n) ++ codes " frames in rings"

-- whose answer did not come
abbrev pub cause_text : Bool → List ℕ
cause_text true = codes ": the peer did not answer"
cause_text false = codes ": the sink failed"

-- what is left of a domain whose daemon was stopped, and why
abbrev pub left_text : Left → List ℕ
left_text left =
    codes "iovad: " ++ decimal left.clients ++ codes " clients and " ++ decimal left.ranges
    ++ codes " ranges are left" ++ rings_text left.frames ++ cause_text left.has_peer

-- the one line of a fault, without its LF; what is not understood, and help, are printed in the
-- words of the command line; that a log has findings, or was not checked as a whole, is said by
-- other lines alone, and by the status
abbrev pub fault_text : Fault → Option (List ℕ)
fault_text (fault.Words usage) = None
fault_text fault.StartAboveLast = Some (codes "iovad: start is above last")
fault_text fault.LastAboveProfile = Some (codes "iovad: last is above the profile")
fault_text (fault.TraceRefused line) = Some (codes "iovad: trace refused at line " ++ decimal line)
fault_text (fault.LogRefused line) = Some (codes "iovad: log refused at line " ++ decimal line)
fault_text (fault.RegionsRefused line) =
    Some (codes "iovad: reserved regions refused at line " ++ decimal line)
fault_text fault.Found = Some (codes "iovad: the log has a finding")
fault_text fault.Incomplete = Some (codes "iovad: not all of the log was checked")
fault_text (fault.CannotRead path) = Some (codes "iovad: cannot read " ++ path.now)
fault_text fault.CannotWrite = Some (codes "iovad: cannot write the output")
fault_text fault.SocketFault = Some (codes "iovad: socket fault")
fault_text fault.CannotOpenSink = Some (codes "iovad: cannot open the sink")
fault_text (fault.Left left) = Some (left_text left)
fault_text fault.NoMemory = Some (codes "iovad: no memory")

-- the fault of the replay of the trace of this name
abbrev pub fault_of_replay : Bor (List ℕ) → ReplayFault → Fault
fault_of_replay path (replay.BadTrace line) = fault.TraceRefused line
fault_of_replay path replay.ReadFault = fault.CannotRead path
fault_of_replay path replay.WriteFault = fault.CannotWrite
fault_of_replay path replay.NoMemory = fault.NoMemory

-- the status of the process
abbrev pub fault_status : Fault → ℕ
fault_status (fault.Words status) = status
fault_status fault.StartAboveLast = 2
fault_status fault.LastAboveProfile = 2
fault_status (fault.TraceRefused line) = 3
fault_status (fault.LogRefused line) = 3
fault_status (fault.RegionsRefused line) = 3
fault_status fault.Found = 1
fault_status fault.Incomplete = 3
fault_status (fault.CannotRead path) = 4
fault_status fault.CannotWrite = 4
fault_status fault.SocketFault = 4
fault_status fault.CannotOpenSink = 4
fault_status fault.NoMemory = 5
fault_status (fault.Left left) = 6

-- the fault of words that ask for nothing
abbrev pub IsFaultOfWords : WordsFault → Fault → Type 0
IsFaultOfWords (words.Usage status) told = told ≡ fault.Words status
IsFaultOfWords words.NoMemory told = told ≡ fault.NoMemory

-- how reading the reserved regions of this name may end
abbrev pub IsFaultOfRegions : Bor (List ℕ) → Fault → Type 0
IsFaultOfRegions name (fault.CannotRead path) = path ≡ name
IsFaultOfRegions name (fault.RegionsRefused line) = Unit {0}
IsFaultOfRegions name fault.NoMemory = Unit {0}
IsFaultOfRegions name other = ⊥

-- it is the fault of a file that can't be read, of such a name
abbrev pub IfUnread : Fault → (List ℕ → Type 0) → Type 0
IfUnread (fault.CannotRead path) P = P path.now
IfUnread other P = ⊥
