-- The faults of a device as those of serving.
use Rattle.http_messages.specs.declared.reading.ReadFault.{ReadFault}
use Rattle.http_messages.specs.declared.reading.ReadFault.TheVariants as reads
use Rattle.broker_http.specs.declared.served.StreamFault.{StreamFault}
use Rattle.broker_http.specs.declared.served.StreamFault.TheVariants.{Read, Turn, Count, Write, Memory}
use Rattle.broker_http.specs.declared.served.ServeFault.{ServeFault}
use Rattle.broker_http.specs.declared.served.ServeFault.TheVariants as returned

abbrev pub fault_of_read : ReadFault → StreamFault
fault_of_read (reads.Reader failed) = Read failed
fault_of_read reads.Memory = Memory

-- the reader or the writer has failed, if this fault says so
abbrev pub ReportsDevice : StreamFault → (ReaderHasFailed WriterHasFailed : Type 0) → Type 0
ReportsDevice (Read failed) ReaderHasFailed WriterHasFailed = ReaderHasFailed
ReportsDevice (Turn over) ReaderHasFailed WriterHasFailed = Unit {0}
ReportsDevice Count ReaderHasFailed WriterHasFailed = Unit {0}
ReportsDevice (Write fault) ReaderHasFailed WriterHasFailed = WriterHasFailed
ReportsDevice Memory ReaderHasFailed WriterHasFailed = Unit {0}

-- as which of three it is reported
abbrev pub returned_as : StreamFault → ServeFault
returned_as (Read failed) = returned.Read
returned_as (Turn over) = returned.Read
returned_as Count = returned.Read
returned_as (Write fault) = returned.Write
returned_as Memory = returned.Memory
