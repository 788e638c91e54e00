-- What contracts see of devices and sinks.
use Rattle.std.specs.Prelude.{ℕ, List}
use Rattle.iova_sink.specs.Calls.{Call}

-- a device in memory: what it took, how much it takes at a time, the call that fails, and how many
-- calls there were and failed
pub record MemoryDeviceState : Type 0 where
  pub bytes : List ℕ
  pub most : ℕ
  pub fail_at : ℕ
  pub calls : ℕ
  pub failures : ℕ

-- a sink of records: its device, and its calls
pub record RecordSinkState (D : Type 0) : Type 0 where
  pub device : D
  pub calls : List Call

-- a sink whose failure is planned: the call that fails, and its calls
pub record Scripted : Type 0 where
  pub fail_at : ℕ
  pub calls : List Call
