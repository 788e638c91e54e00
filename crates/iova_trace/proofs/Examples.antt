-- Worked examples of the texts: the headers, a line for each step, and a line for each reply.
use Rattle.std.proofs.Common.{◌≡◌, ◌≤◌, true, false, [], ◌∷◌, Some, None, inr, refl, arith}
use Rattle.std.specs.Prelude.{codes}
use Rattle.std.specs.Fmt.{digits}
use Rattle.iova_range.specs.declared.refusal.Refusal.TheVariants.{Zero, RingFull, NoMemory, BadProfile}
use Rattle.iova_range.specs.Bounds.{first_profile, second_profile}
use Rattle.iova_model.specs.declared.step.Step.TheVariants as step
use Rattle.iova_model.specs.declared.step.Reply.TheVariants as reply
use Rattle.iova_line.specs.Text.{header_text, step_text, IsHeader}
use Rattle.iova_trace.specs.Replies.{reply_text}
use Rattle.iova_line.specs.Traces.{trace_text}
use Rattle.iova_trace.specs.Lines.{next_line_number, IsRefused}

-- Headers.

first_version : header_text (record { start = 1; last = 1023; profile = first_profile }) 16 ≡ codes "iovatrace 1 1 1023 16"
unfolding digits
first_version = refl

second_version : header_text (record { start = 5; last = 1099511627775; profile = second_profile 32 }) 1 ≡ codes "iovatrace 2 5 1099511627775 1 32"
unfolding digits
second_version = refl

second_version_without_a_depot : header_text (record { start = 1; last = 9; profile = second_profile 0 }) 2 ≡ codes "iovatrace 2 1 9 2 0"
unfolding digits
second_version_without_a_depot = refl

-- Steps.

reserve_line : step_text (step.Reserve 10 20) ≡ codes "reserve 10 20"
unfolding digits
reserve_line = refl

open_sac_line : step_text (step.Open 3 true) ≡ codes "open 3 sac"
unfolding digits
open_sac_line = refl

open_dac_line : step_text (step.Open 0 false) ≡ codes "open 0 dac"
unfolding digits
open_dac_line = refl

alloc_line : step_text (step.Alloc 1 2 33 18446744073709551615) ≡ codes "alloc 1 2 33 18446744073709551615"
unfolding digits
alloc_line = refl

unmap_line : step_text (step.Unmap 1 2 1023) ≡ codes "unmap 1 2 1023"
unfolding digits
unmap_line = refl

begin_line : step_text step.Begin ≡ codes "begin"
begin_line = refl

end_ok_line : step_text (step.End 7 true) ≡ codes "end 7 ok"
unfolding digits
end_ok_line = refl

end_fail_line : step_text (step.End 7 false) ≡ codes "end 7 fail"
unfolding digits
end_fail_line = refl

drain_line : step_text (step.Drain 1 2) ≡ codes "drain 1 2"
unfolding digits
drain_line = refl

close_line : step_text (step.Close 1 2) ≡ codes "close 1 2"
unfolding digits
close_line = refl

close_one_line : step_text (step.CloseOne 1 2) ≡ codes "closeone 1 2"
unfolding digits
close_one_line = refl

-- Replies. `reserved` names the last frame, `given` and `queued` the length.

reserved_line : reply_text (reply.Reserved (record { lo = 10; len = 21 })) ≡ codes "reserved 10 30\n"
unfolding digits
reserved_line = refl

opened_line : reply_text (reply.Opened 9223372036854775807) ≡ codes "opened 9223372036854775807\n"
unfolding digits
opened_line = refl

given_line : reply_text (reply.Given (record { lo = 1016; len = 4 })) ≡ codes "given 1016 4\n"
unfolding digits
given_line = refl

queued_line : reply_text (reply.Queued (record { lo = 960; len = 33 })) ≡ codes "queued 960 33\n"
unfolding digits
queued_line = refl

empty_line : reply_text reply.Empty ≡ codes "empty\n"
empty_line = refl

begun_line : reply_text (reply.Begun 1) ≡ codes "begun 1\n"
unfolding digits
begun_line = refl

ended_line : reply_text reply.Ended ≡ codes "ended\n"
ended_line = refl

drained_line : reply_text (reply.Drained 255) ≡ codes "drained 255\n"
unfolding digits
drained_line = refl

marked_line : reply_text (reply.Marked 0) ≡ codes "marked 0\n"
unfolding digits
marked_line = refl

refused_lines : reply_text (reply.Refused Zero) ≡ codes "no 1 Zero\n"
unfolding digits
refused_lines = refl

ring_full_line : reply_text (reply.Refused RingFull) ≡ codes "no 7 RingFull\n"
unfolding digits
ring_full_line = refl

no_memory_line : reply_text (reply.Refused NoMemory) ≡ codes "no 17 NoMemory\n"
unfolding digits
no_memory_line = refl

bad_profile_line : reply_text (reply.Refused BadProfile) ≡ codes "no 25 BadProfile\n"
unfolding digits
bad_profile_line = refl

-- Whole traces.

a_trace : trace_text (record { bounds = record { start = 1; last = 1023; profile = first_profile }; workers = 1; steps = step.Open 0 false ∷ step.Alloc 0 1 3 1023 ∷ step.Begin ∷ [] })
    ≡ codes "iovatrace 1 1 1023 1\nopen 0 dac\nalloc 0 1 3 1023\nbegin\n"
unfolding digits
a_trace = refl

no_workers : IsHeader (record { start = 1; last = 1023; profile = first_profile }) 0 → ⊥
no_workers h = let some : 1 ≤ 0 = h.some in absurd (omega arith)

workers_17 : IsHeader (record { start = 1; last = 1023; profile = first_profile }) 17 → ⊥
workers_17 h = let most : 17 ≤ 16 = h.most in absurd (omega arith)

-- the header is line 1
number_of_the_header : next_line_number None ≡ 1
number_of_the_header = refl

number_of_the_third_step :
    next_line_number (Some (record { bounds = record { start = 1; last = 1023; profile = first_profile }; workers = 1; steps = step.Begin ∷ step.Begin ∷ [] })) ≡ 4
number_of_the_third_step = refl

no_bytes : IsRefused [] 1
no_bytes = record { lines = None; rest = []; begins = record { good = tt; whole = refl }; number_is = refl; bad = inr refl }
