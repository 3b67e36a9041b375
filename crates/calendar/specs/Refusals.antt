-- The number of each refusal, as a job prints it. Assumes nothing.
use Rattle.std.specs.Prelude.{ℕ}
use Rattle.calendar.specs.declared.refusal.Refusal.{Refusal}
use Rattle.calendar.specs.declared.refusal.Refusal.TheVariants.{YearOutOfRange, MonthOutOfRange, NoRegularCapacity, CapacityAboveLimit, ReductionOutOfRange, BidPriceAboveLimit, DayOutOfRange, UnknownCallKind, CallHoursOutOfRange, KeyAlreadyBooked, BookFull, NotAMeterCode, AnotherMeter, PlaceNotNextFree, PastLastPlace, ReadingAboveLimit, MonthNotFull, LeadNotUsable, JobTextTooLong, CallKindNotTaken, BidBeyondCapacity, CallLengthNotTaken, CalledHoursAboveLimit, TooFewDaysToAverage, JobIncomplete, TrialDayOutsideMonth, TrialReadingsNotUsable, MalformedLine, LineOutOfOrder, PrintBufferTooShort}

abbrev pub refusal_number : Refusal → ℕ
-- a month: its year lies outside 2001 to 2099
refusal_number YearOutOfRange = 1
-- a month: its number lies outside 1 to 12
refusal_number MonthOutOfRange = 2
-- capacities: the regular capacity is 0
refusal_number NoRegularCapacity = 3
-- capacities: their sum is above 40,000 kW
refusal_number CapacityAboveLimit = 4
-- a bid's terms: the contract reduction lies outside 20 to 40,000 kW
refusal_number ReductionOutOfRange = 5
-- a bid's terms: the price is above 1,000 cents
refusal_number BidPriceAboveLimit = 6
-- an off-peak day or a call: the day is above 36,524
refusal_number DayOutOfRange = 7
-- a call: its kind is neither 1 nor 2
refusal_number UnknownCallKind = 8
-- a call: it starts outside 4 to 22, lasts other than 2 to 6 hours, or ends past 24
refusal_number CallHoursOutOfRange = 9
-- a booking: the book has an entry of this key
refusal_number KeyAlreadyBooked = 10
-- a booking: the book has an entry in every place
refusal_number BookFull = 11
-- a meter code: not 1 to 24 bytes of 33 to 126
refusal_number NotAMeterCode = 12
-- a block: its code is not the sheet's
refusal_number AnotherMeter = 13
-- a block: its place is not the number of readings held
refusal_number PlaceNotNextFree = 14
-- a block: it passes the last place
refusal_number PastLastPlace = 15
-- a block: one of its readings is above 40,000 kW
refusal_number ReadingAboveLimit = 16
-- a quote: a slot of the month has no reading
refusal_number MonthNotFull = 17
-- a quote: the lead is not 2,976 readings, or one is above 40,000 kW
refusal_number LeadNotUsable = 18
-- a job: its text is above 60,000 bytes
refusal_number JobTextTooLong = 19
-- a quote: a call of the month is of a kind that the programme does not take
refusal_number CallKindNotTaken = 20
-- a bid: the regular capacity is below 100 kW or below the contract reduction
refusal_number BidBeyondCapacity = 21
-- a bid: a call of the month lasts neither 2 nor 4 hours
refusal_number CallLengthNotTaken = 22
-- a bid: the calls of the month last over 36 hours in all
refusal_number CalledHoursAboveLimit = 23
-- a programme: a call of the month has fewer than five days to average
refusal_number TooFewDaysToAverage = 24
-- a job: it ends before its flex line
refusal_number JobIncomplete = 25
-- a trial quote: its day is not in the month
refusal_number TrialDayOutsideMonth = 26
-- a trial quote: not 96 readings, or one is above 40,000 kW
refusal_number TrialReadingsNotUsable = 27
-- a job's line: not of the form
refusal_number MalformedLine = 28
-- a job's line: out of order
refusal_number LineOutOfOrder = 29
-- printing: the buffer has under 512 bytes
refusal_number PrintBufferTooShort = 30
