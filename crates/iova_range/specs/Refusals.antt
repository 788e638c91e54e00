-- The number and the name of each refusal.
use Rattle.std.specs.Prelude.{ℕ, List, codes}
use Rattle.iova_range.specs.declared.refusal.Refusal.{Refusal}
use Rattle.iova_range.specs.declared.refusal.Refusal.TheVariants as refusal

abbrev pub refusal_number : Refusal → ℕ
refusal_number refusal.Zero = 1
refusal_number refusal.TooBig = 2
refusal_number refusal.NoClient = 3
refusal_number refusal.Closing = 4
refusal_number refusal.HoldingsFull = 5
refusal_number refusal.NoSpace = 6
refusal_number refusal.RingFull = 7
refusal_number refusal.NotHeld = 8
refusal_number refusal.Taken = 9
refusal_number refusal.BadWindow = 10
refusal_number refusal.WindowsFull = 11
refusal_number refusal.NoWorker = 12
refusal_number refusal.FlightsFull = 13
refusal_number refusal.NoFlight = 14
refusal_number refusal.Worn = 15
refusal_number refusal.ClientsFull = 16
refusal_number refusal.NoMemory = 17
refusal_number refusal.SinkFault = 18
refusal_number refusal.LinkFault = 19
refusal_number refusal.BadLine = 20
refusal_number refusal.TooMany = 21
refusal_number refusal.BadTrace = 22
refusal_number refusal.NoDomain = 23
refusal_number refusal.Twice = 24
refusal_number refusal.BadProfile = 25

abbrev pub refusal_name : Refusal → List ℕ
refusal_name refusal.Zero = codes "Zero"
refusal_name refusal.TooBig = codes "TooBig"
refusal_name refusal.NoClient = codes "NoClient"
refusal_name refusal.Closing = codes "Closing"
refusal_name refusal.HoldingsFull = codes "HoldingsFull"
refusal_name refusal.NoSpace = codes "NoSpace"
refusal_name refusal.RingFull = codes "RingFull"
refusal_name refusal.NotHeld = codes "NotHeld"
refusal_name refusal.Taken = codes "Taken"
refusal_name refusal.BadWindow = codes "BadWindow"
refusal_name refusal.WindowsFull = codes "WindowsFull"
refusal_name refusal.NoWorker = codes "NoWorker"
refusal_name refusal.FlightsFull = codes "FlightsFull"
refusal_name refusal.NoFlight = codes "NoFlight"
refusal_name refusal.Worn = codes "Worn"
refusal_name refusal.ClientsFull = codes "ClientsFull"
refusal_name refusal.NoMemory = codes "NoMemory"
refusal_name refusal.SinkFault = codes "SinkFault"
refusal_name refusal.LinkFault = codes "LinkFault"
refusal_name refusal.BadLine = codes "BadLine"
refusal_name refusal.TooMany = codes "TooMany"
refusal_name refusal.BadTrace = codes "BadTrace"
refusal_name refusal.NoDomain = codes "NoDomain"
refusal_name refusal.Twice = codes "Twice"
refusal_name refusal.BadProfile = codes "BadProfile"
