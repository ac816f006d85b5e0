pub mod PileExamples
