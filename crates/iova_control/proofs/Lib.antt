mod Behind
mod MetricTexts
mod Reports
