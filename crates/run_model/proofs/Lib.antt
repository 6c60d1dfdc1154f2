mod CsvExamples
mod MessageExamples
mod PrintedExamples
