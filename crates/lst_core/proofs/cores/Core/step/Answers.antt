use Rattle.std.proofs.Common.{sym}
use Rattle.lst_core.proofs.Stepping.{call_refused, call_told, call_read, call_stopped, call_stampable, call_place, call_writable, call_time, call_core, call_done}
use Rattle.lst_core.proofs.cores.Core.step.Goals as goal

pub returns-then-not-allows-clause-steps : goal.returns-then-not-allows-clause-steps
returns-then-not-allows-clause-steps c = call_refused c.args.self.now (record { limits = c.self.inside.layout.limits; words = c.self.inside.words.items; numbers = c.self.inside.numbers.items }) (sym c.self.view_is) c.self.invariant c.args.event c.requires c.session_of-session.result c.session_of-session.ensures c.index.result.now c.index.ensures c.allows.result c.if-not-allows.true c.allows.ensures

pub stands-requires-clause-told : goal.stands-requires-clause-told
stands-requires-clause-told c = call_told c.args.self.now (record { limits = c.self.inside.layout.limits; words = c.self.inside.words.items; numbers = c.self.inside.numbers.items }) (sym c.self.view_is) c.self.invariant c.args.event c.requires c.session_of-session.result c.session_of-session.ensures c.index.result.now c.index.ensures c.as_slice.result.now c.as_slice.ensures.value

pub returns-then-not-stands-clause-steps : goal.returns-then-not-stands-clause-steps
returns-then-not-stands-clause-steps c = call_stopped c.args.self.now (record { limits = c.self.inside.layout.limits; words = c.self.inside.words.items; numbers = c.self.inside.numbers.items }) (sym c.self.view_is) c.self.invariant c.args.event c.requires c.session_of-session.result c.session_of-session.ensures c.index.result.now c.index.ensures c.as_slice.result.now c.as_slice.ensures.value c.stands.result c.if-not-stands.true c.stands.ensures

pub time-time-requires-clause-read : goal.time-time-requires-clause-read
time-time-requires-clause-read c = call_read c.args.self.now (record { limits = c.self.inside.layout.limits; words = c.self.inside.words.items; numbers = c.self.inside.numbers.items }) (sym c.self.view_is) c.self.invariant c.args.event c.requires c.session_of-session.result c.session_of-session.ensures c.index.result.now c.index.ensures c.as_slice-2.result.now c.as_slice-2.ensures.value

pub time-time-requires-clause-committed : goal.time-time-requires-clause-committed
time-time-requires-clause-committed c = call_stampable c.args.self.now (record { limits = c.self.inside.layout.limits; words = c.self.inside.words.items; numbers = c.self.inside.numbers.items }) (sym c.self.view_is) c.self.invariant c.args.event c.requires c.session_of-session.result c.session_of-session.ensures c.index.result.now c.index.ensures (c.allows.ensures.0 c.if-not-allows.false) c.as_slice.result.now c.as_slice.ensures.value c.stands.result c.if-not-stands.false c.stands.ensures c.as_slice-2.result.now c.as_slice-2.ensures.value

pub target-address-requires-clause-place : goal.target-address-requires-clause-place
target-address-requires-clause-place c = call_place c.args.self.now (record { limits = c.self.inside.layout.limits; words = c.self.inside.words.items; numbers = c.self.inside.numbers.items }) (sym c.self.view_is) c.self.invariant c.args.event c.requires c.session_of-session.result c.session_of-session.ensures c.index.result.now c.index.ensures (c.allows.ensures.0 c.if-not-allows.false) c.as_slice.result.now c.as_slice.ensures.value c.stands.result c.if-not-stands.false c.stands.ensures

pub written-requires-clause-writable : goal.written-requires-clause-writable
written-requires-clause-writable c = call_writable c.args.self.now (record { limits = c.self.inside.layout.limits; words = c.self.inside.words.items; numbers = c.self.inside.numbers.items }) (sym c.self.view_is) c.self.invariant c.args.event c.requires c.session_of-session.result c.session_of-session.ensures c.index.result.now c.index.ensures (c.allows.ensures.0 c.if-not-allows.false) c.as_slice.result.now c.as_slice.ensures.value c.stands.result c.if-not-stands.false c.stands.ensures

pub written-requires-clause-time : goal.written-requires-clause-time
written-requires-clause-time c = call_time c.args.self.now (record { limits = c.self.inside.layout.limits; words = c.self.inside.words.items; numbers = c.self.inside.numbers.items }) (sym c.self.view_is) c.self.invariant c.args.event c.requires c.session_of-session.result c.session_of-session.ensures c.index.result.now c.index.ensures (c.allows.ensures.0 c.if-not-allows.false) c.as_slice.result.now c.as_slice.ensures.value c.stands.result c.if-not-stands.false c.stands.ensures c.as_slice-2.result.now c.as_slice-2.ensures.value c.time-time.result c.time-time.ensures

pub after-requires-clause-writable : goal.after-requires-clause-writable
after-requires-clause-writable c = call_writable c.args.self.now (record { limits = c.self.inside.layout.limits; words = c.self.inside.words.items; numbers = c.self.inside.numbers.items }) (sym c.self.view_is) c.self.invariant c.args.event c.requires c.session_of-session.result c.session_of-session.ensures c.index.result.now c.index.ensures (c.allows.ensures.0 c.if-not-allows.false) c.as_slice.result.now c.as_slice.ensures.value c.stands.result c.if-not-stands.false c.stands.ensures

pub invariant_of-self : goal.invariant_of-self
invariant_of-self c = call_core c.args.self.now (record { limits = c.self.inside.layout.limits; words = c.self.inside.words.items; numbers = c.self.inside.numbers.items }) (sym c.self.view_is) c.self.invariant c.args.event c.requires c.session_of-session.result c.session_of-session.ensures c.index.result.now c.index.ensures (c.allows.ensures.0 c.if-not-allows.false) c.as_slice.result.now c.as_slice.ensures.value c.stands.result c.if-not-stands.false c.stands.ensures c.as_slice-2.result.now c.as_slice-2.ensures.value c.time-time.result c.time-time.ensures c.target-address.result c.index-found.result.now c.written.result c.after.result c.target-address.ensures.address c.target-address.ensures.below c.index-found.ensures c.written.ensures c.after.ensures

pub returns-clause-steps : goal.returns-clause-steps
returns-clause-steps c = call_done c.args.self.now (record { limits = c.self.inside.layout.limits; words = c.self.inside.words.items; numbers = c.self.inside.numbers.items }) (sym c.self.view_is) c.self.invariant c.args.event c.requires c.session_of-session.result c.session_of-session.ensures c.index.result.now c.index.ensures (c.allows.ensures.0 c.if-not-allows.false) c.as_slice.result.now c.as_slice.ensures.value c.stands.result c.if-not-stands.false c.stands.ensures c.as_slice-2.result.now c.as_slice-2.ensures.value c.time-time.result c.time-time.ensures c.target-address.result c.index-found.result.now c.written.result c.after.result c.target-address.ensures.address c.target-address.ensures.below c.index-found.ensures c.written.ensures c.after.ensures
